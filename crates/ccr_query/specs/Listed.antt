-- The lists of queries that were read so far, as trees.
use Rattle.ccr_query.specs.declared.reading.QueryLists.{QueryLists}
use Rattle.ccr_query.specs.Bools.{Lists}
use Rattle.ccr_query.specs.Queries.{trees_of}

abbrev pub lists_in : QueryLists → Lists
lists_in l = record { must = trees_of l.must.items; filter = trees_of l.filter.items; should = trees_of l.should.items; must_not = trees_of l.must_not.items }
