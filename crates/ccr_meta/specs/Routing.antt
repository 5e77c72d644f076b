use Rattle.std.specs.Prelude.{ℕ, ◌*◌, ◌%◌, ◌^◌, List, ◌++◌, fold, take, Option, unwrap_or, bit_xor}
use Rattle.uuid.specs.Parts.{with_version, with_variant, zero_bytes}
use Rattle.uuid.specs.declared.Variant.TheVariants.{RFC4122}
use Rattle.uuid.specs.declared.Version.TheVariants.{Sha1}
use Rattle.sha1.specs.Sha1.{sha1}

-- a byte more: it is put in by `xor`, and what comes is multiplied by the factor
abbrev pub fnv_step : ℕ → ℕ → ℕ
fnv_step hash byte = (bit_xor hash byte * 1099511628211) % 2 ^ 64

-- FNV-1a with 64 bits
abbrev pub fnv_1a : List ℕ → ℕ
fnv_1a bytes = fold fnv_step 14695981039346656037 bytes

-- the shard of an operation: by its routing text where it has one, and else by its id
abbrev pub route_of : List ℕ → Option (List ℕ) → ℕ → ℕ
route_of id routing shards = fnv_1a (unwrap_or routing id) % shards

-- the UUID of version 5 of a name, in the namespace of the nil UUID
abbrev pub name_uuid : List ℕ → List ℕ
name_uuid name = with_version (with_variant (take 16 (sha1 (zero_bytes ++ name))) RFC4122) Sha1
