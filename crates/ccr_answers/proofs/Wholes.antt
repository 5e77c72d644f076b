-- The fronts of what the shards answered come to what all of it comes to, and the text of an answer is that of what it says.
use Rattle.std.specs.List.{flat_map, sum}
use Rattle.std.proofs.Common.{◌≡◌, ℕ, ℤ, ◌+◌, Bool, List, [], ◌∷◌, ◌++◌, map, length, take, drop, codes, decimal, refl, sym, ◌∙◌, ap, subst}
use Rattle.std.proofs.lemmas.List.{drop-take}
use Rattle.std.proofs.lemmas.List.Folds.{flat_map-map}
use Rattle.ccr_query.specs.Answers.{HitsOfShard}
use Rattle.ccr_query.specs.declared.answers.Hit.{Hit}
use Rattle.ccr_query.specs.declared.sorting.SortKey.{SortKey}
use Rattle.ccr_journal.specs.declared.replies.Reply.{Reply}
use Rattle.ccr_journal.specs.declared.replies.Reply.TheVariants as reply
use Rattle.ccr_model.specs.Answers.{AreInOrder}
use Rattle.ccr_model.specs.Searches.{sorted_hits}
use Rattle.ccr_model.specs.SeveralShards.{JoinedAnswer}
use Rattle.ccr_law_base.proofs.Lists.{All-weaker}
use Rattle.ccr_law_stores.specs.ShardsJoined.{FrontOfShard, front_of, joined}
use Rattle.ccr_law_stores.proofs.Insertions.{Pairwise, put_all, front_of_sorted}
use Rattle.ccr_law_stores.proofs.SearchOrders.{order_of, hit_total}
use Rattle.ccr_law_stores.proofs.SearchSorts.{GoesBefore, order_in_pairs, sorted_put}
use Rattle.ccr_search.specs.Joined.{checkpoint_of, said_by, AreInOrderEach}
use Rattle.ccr_search.specs.Printed.{answer_text, checkpoint_text, hit_text, listed, truth_text}
use Rattle.ccr_search.specs.declared.joining.Answer.{Answer}
use Rattle.ccr_answers.specs.Joined.{answer_in, found, joined_text, whole, AreOrderedBy, IsOrderedBy}

-- ---- the page

-- what stands behind a place is told by the front that is as long as place and number together
window : {X : Type 0} (from size : ℕ) (xs ys : List X) → take (from + size) xs ≡ take (from + size) ys → take size (drop from xs) ≡ take size (drop from ys)
window from size xs ys same = sym (drop-take from size xs) ∙ ap (drop from) same ∙ drop-take from size ys

abbrev hits_of : List FrontOfShard → List Hit
hits_of shards = flat_map {X = FrontOfShard} {A = Hit} (λ shard. shard.hits) shards

sorted_of : (keys : List SortKey) (f : HitsOfShard → FrontOfShard) (parts : List HitsOfShard)
    → sorted_hits keys (hits_of (map f parts)) ≡ put_all (order_of keys) [] (flat_map {X = HitsOfShard} {A = Hit} (λ part. (f part).hits) parts)
sorted_of keys f parts =
    sorted_put keys (hits_of (map f parts))
    ∙ ap (put_all (order_of keys) []) (flat_map-map {A = HitsOfShard} {B = FrontOfShard} {C = Hit} (λ shard. shard.hits) f parts)

pages : (keys : List SortKey) (from size : ℕ) (parts : List HitsOfShard) → AreInOrderEach keys parts
    → take size (drop from (sorted_hits keys (hits_of (map (front_of (from + size)) parts)))) ≡ take size (drop from (sorted_hits keys (hits_of (map whole parts))))
pages keys from size parts order =
    window from size (sorted_hits keys (hits_of (map (front_of (from + size)) parts))) (sorted_hits keys (hits_of (map whole parts)))
    (ap (take (from + size)) (sorted_of keys (front_of (from + size)) parts)
    ∙ front_of_sorted {X = Hit} {Y = HitsOfShard} (order_of keys) (hit_total keys) (from + size) (λ part. part.hits) parts
    (All-weaker (λ (part : HitsOfShard). AreInOrder keys part.hits) (λ (part : HitsOfShard). Pairwise (GoesBefore keys) part.hits)
    (λ part is. order_in_pairs keys part.hits is) parts order)
    ∙ ap (take (from + size)) (sym (sorted_of keys whole parts)))

-- ---- what the shards answered

ordered_one : (keys : List SortKey) (r : Reply) → IsOrderedBy keys r → AreInOrder keys (answer_in r).hits
ordered_one keys (reply.Found answer) order = order
ordered_one keys r order = tt

ordered_each : (keys : List SortKey) (told : List Reply) → AreOrderedBy keys told → AreInOrderEach keys (map answer_in told)
ordered_each keys [] order = tt
ordered_each keys (r ∷ told) order = (ordered_one keys r order.0, ordered_each keys told order.1)

checkpoints_whole : (parts : List HitsOfShard)
    → map {A = HitsOfShard} {B = ℤ} (λ part. checkpoint_of part.count) parts ≡ map {A = ℕ} {B = ℤ} checkpoint_of (map {A = FrontOfShard} {B = ℕ} (λ shard. shard.count) (map whole parts))
checkpoints_whole [] = refl
checkpoints_whole (part ∷ parts) = ap (λ (rest : List ℤ). checkpoint_of part.count ∷ rest) (checkpoints_whole parts)

-- ---- the text

abbrev text_of_parts : List ℤ → List Bool → List Hit → ℕ → List ℕ
text_of_parts checkpoints gaps hits total =
    codes "{\"checkpoints\":[" ++ listed checkpoint_text checkpoints ++ codes "],\"gaps\":[" ++ listed truth_text gaps
    ++ codes "],\"hits\":[" ++ listed hit_text hits ++ codes "],\"total\":" ++ decimal total ++ codes "}"

pub text_said : (a : Answer) (j : JoinedAnswer) → said_by a ≡ j → a.checkpoints.items ≡ map {A = ℕ} {B = ℤ} checkpoint_of j.counts → answer_text a ≡ joined_text j
unfolding answer_text
text_said a j said checkpoints = λ i. text_of_parts (checkpoints i) ((ap (λ (of : JoinedAnswer). of.gaps) said) i) ((ap (λ (of : JoinedAnswer). of.hits) said) i)
    ((ap (λ (of : JoinedAnswer). of.total) said) i)

-- ---- all that was answered

counts_same : (most : ℕ) (parts : List HitsOfShard)
    → map {A = FrontOfShard} {B = ℕ} (λ shard. shard.count) (map (front_of most) parts) ≡ map {A = FrontOfShard} {B = ℕ} (λ shard. shard.count) (map whole parts)
counts_same most [] = refl
counts_same most (part ∷ parts) = ap (λ (rest : List ℕ). part.count ∷ rest) (counts_same most parts)

gaps_same : (most : ℕ) (parts : List HitsOfShard)
    → map {A = FrontOfShard} {B = Bool} (λ shard. shard.gap) (map (front_of most) parts) ≡ map {A = FrontOfShard} {B = Bool} (λ shard. shard.gap) (map whole parts)
gaps_same most [] = refl
gaps_same most (part ∷ parts) = ap (λ (rest : List Bool). part.gap ∷ rest) (gaps_same most parts)

totals_same : (most : ℕ) (parts : List HitsOfShard)
    → map {A = FrontOfShard} {B = ℕ} (λ shard. shard.total) (map (front_of most) parts) ≡ map {A = FrontOfShard} {B = ℕ} (λ shard. shard.total) (map whole parts)
totals_same most [] = refl
totals_same most (part ∷ parts) = ap (λ (rest : List ℕ). length part.hits ∷ rest) (totals_same most parts)

joined_whole : (keys : List SortKey) (from size : ℕ) (parts : List HitsOfShard) → AreInOrderEach keys parts
    → joined keys from size (map (front_of (from + size)) parts) ≡ joined keys from size (map whole parts)
joined_whole keys from size parts order = λ i. record {
  counts = counts_same (from + size) parts i;
  gaps = gaps_same (from + size) parts i;
  hits = pages keys from size parts order i;
  total = ap sum (totals_same (from + size) parts) i;
}

pub ordered_parts : (keys : List SortKey) (told : List Reply) (parts : List HitsOfShard) → parts ≡ map {A = Reply} {B = HitsOfShard} answer_in told → AreOrderedBy keys told → AreInOrderEach keys parts
ordered_parts keys told parts same order = subst (AreInOrderEach keys) (sym same) (ordered_each keys told order)

pub found_said : (keys : List SortKey) (from size : ℕ) (told : List Reply) (parts : List HitsOfShard) (j : JoinedAnswer)
    → parts ≡ map {A = Reply} {B = HitsOfShard} answer_in told → AreOrderedBy keys told → j ≡ joined keys from size (map (front_of (from + size)) parts) → j ≡ found keys from size told
found_said keys from size told parts j same order is =
    is ∙ joined_whole keys from size parts (ordered_parts keys told parts same order) ∙ ap (λ (all : List HitsOfShard). joined keys from size (map whole all)) same

pub found_checkpoints : (keys : List SortKey) (from size : ℕ) (told : List Reply) (parts : List HitsOfShard) (checkpoints : List ℤ)
    → parts ≡ map {A = Reply} {B = HitsOfShard} answer_in told → checkpoints ≡ map {A = HitsOfShard} {B = ℤ} (λ part. checkpoint_of part.count) parts
    → checkpoints ≡ map {A = ℕ} {B = ℤ} checkpoint_of (found keys from size told).counts
found_checkpoints keys from size told parts checkpoints same is =
    is ∙ checkpoints_whole parts ∙ ap (λ (all : List HitsOfShard). map {A = ℕ} {B = ℤ} checkpoint_of (map {A = FrontOfShard} {B = ℕ} (λ shard. shard.count) (map whole all))) same
