-- The parts of the files of a session, joined, are the files.
use Rattle.std.specs.List.{AllByRecursion, range_with_len}
use Rattle.std.specs.Prelude.{filter, flat_map, slice_get, unwrap_or}
use Rattle.std.proofs.Common.{◌≡◌, ℕ, zero, suc, ◌+◌, ◌-◌, ◌*◌, ◌/◌, ◌≤◌, Option, Some, List, [], ◌∷◌, ◌++◌, map, length, take, drop, refl, sym, ◌∙◌, ap, arith}
use Rattle.std.proofs.Math.Seq.{take-add}
use Rattle.std.proofs.lemmas.List.{take_all, drop-drop}
use Rattle.std.proofs.lemmas.List.Concat.{flat_map-cons}
use Rattle.std.proofs.lemmas.List.Folds.{flat_map-map}
use Rattle.ccr_op.specs.Operation.{Operation}
use Rattle.ccr_segment.specs.Index.{ops_in}
use Rattle.ccr_model.specs.Restores.{Fetch, offsets_of, places_of, bytes_at, file_bytes, files_of}
use Rattle.ccr_model.specs.Leaders.{Session}
use Rattle.ccr_model.specs.LeaderFrames.{chunk_of}
use Rattle.ccr_model.specs.FrameFacts.{ops_of_session}
use Rattle.ccr_law_base.proofs.FileParts.{is_of, places_at}
use Rattle.ccr_law_base.proofs.Lists.{All-filter, some_equal}
use Rattle.ccr_law_followers.specs.TrueCopies.{all_in}
use Rattle.ccr_law_followers.specs.Fetches.{IsWholeFetch}

-- ---- the parts of one file

pub parts_joined : (size : ℕ) (xs : List ℕ) (a k : ℕ)
    → flat_map {X = ℕ} {A = ℕ} (λ n. take size (drop (n * size) xs)) (range_with_len a k) ≡ take (k * size) (drop (a * size) xs)
parts_joined size xs a zero = sym (ap (λ (n : ℕ). take n (drop (a * size) xs)) no_parts ∙ take_none (drop (a * size) xs))
  where
    no_parts : zero * size ≡ zero
    no_parts = omega arith

    take_none : (ys : List ℕ) → take zero ys ≡ []
    take_none [] = refl
    take_none (y ∷ ys) = refl
parts_joined size xs a (suc k) =
    flat_map-cons {X = ℕ} {A = ℕ} (λ n. take size (drop (n * size) xs)) a (range_with_len (a + 1) k)
    ∙ (ap (λ (ys : List ℕ). take size (drop (a * size) xs) ++ ys) (parts_joined size xs (a + 1) k)
    ∙ (ap (λ (ys : List ℕ). take size (drop (a * size) xs) ++ take (k * size) ys)
    (ap (λ (n : ℕ). drop n xs) (next_offset) ∙ sym (drop-drop size (a * size) xs))
    ∙ (sym (take-add size (k * size) (drop (a * size) xs)) ∙ ap (λ (n : ℕ). take n (drop (a * size) xs)) (all_parts))))
  where
    next_offset : (a + 1) * size ≡ a * size + size
    next_offset = omega arith

    all_parts : size + k * size ≡ suc k * size
    all_parts = omega arith

pub enough_parts : (size n : ℕ) → 1 ≤ size → n ≤ ((n + size - 1) / size) * size
enough_parts size n some = omega arith

pub file_joined : (size : ℕ) (xs : List ℕ) → 1 ≤ size
    → flat_map {X = ℕ} {A = ℕ} (λ n. take size (drop (n * size) xs)) (range_with_len 0 ((length xs + size - 1) / size)) ≡ xs
file_joined size xs some =
    parts_joined size xs 0 ((length xs + size - 1) / size)
    ∙ (ap (λ (k : ℕ). take (((length xs + size - 1) / size) * size) (drop k xs)) no_offset
    ∙ (ap (take (((length xs + size - 1) / size) * size)) (drop_nothing xs) ∙ take_all (((length xs + size - 1) / size) * size) xs (enough_parts size (length xs) some)))
  where
    no_offset : 0 * size ≡ zero
    no_offset = omega arith

    drop_nothing : (ys : List ℕ) → drop zero ys ≡ ys
    drop_nothing [] = refl
    drop_nothing (y ∷ ys) = refl

-- ---- the files

pub flat-same : (g h : ℕ × ℕ → List ℕ) (ps : List (ℕ × ℕ)) → AllByRecursion (λ (p : ℕ × ℕ). g p ≡ h p) ps → flat_map {X = ℕ × ℕ} {A = ℕ} g ps ≡ flat_map {X = ℕ × ℕ} {A = ℕ} h ps
flat-same g h [] all = refl
flat-same g h (p ∷ ps) all =
    flat_map-cons {X = ℕ × ℕ} {A = ℕ} g p ps
    ∙ (ap (λ (xs : List ℕ). xs ++ flat_map {X = ℕ × ℕ} {A = ℕ} g ps) all.0
    ∙ (ap (λ (xs : List ℕ). h p ++ xs) (flat-same g h ps all.1) ∙ sym (flat_map-cons {X = ℕ × ℕ} {A = ℕ} h p ps)))

pub sizes_at : (files : List (List ℕ)) (k : ℕ) (bytes : List ℕ) → slice_get files k ≡ Some bytes → slice_get (map {A = List ℕ} {B = ℕ} (λ file. length file) files) k ≡ Some (length bytes)
sizes_at [] k bytes at = cc
sizes_at (x ∷ files) zero bytes at = ap (λ (xs : List ℕ). Some (length xs)) (some_equal x bytes at)
sizes_at (x ∷ files) (suc k) bytes at = sizes_at files k bytes at

-- the bytes of a file that was fetched
pub fetched_file : (session : Session) (size : ℕ) (f : Fetch) (k : ℕ) (bytes : List ℕ) → IsWholeFetch session size f → slice_get session.files k ≡ Some bytes → file_bytes size f k ≡ bytes
fetched_file session size f k bytes whole at =
    let own : slice_get f.sizes k ≡ Some (length bytes) = ap (λ (sizes : List ℕ). slice_get sizes k) whole.same_sizes ∙ sizes_at session.files k bytes at in
    flat-same (bytes_at f.chunks) (λ (place : ℕ × ℕ). chunk_of session place.0 place.1 size) (filter (is_of k) (places_of size f.sizes))
    (All-filter (λ (place : ℕ × ℕ). bytes_at f.chunks place ≡ chunk_of session place.0 place.1 size) (is_of k) (places_of size f.sizes) whole.all)
    ∙ (ap (flat_map {X = ℕ × ℕ} {A = ℕ} (λ place. chunk_of session place.0 place.1 size)) (places_at size 0 k (length bytes) f.sizes own k (omega arith))
    ∙ (flat_map-map (λ (place : ℕ × ℕ). chunk_of session place.0 place.1 size) (λ (offset : ℕ). (k, offset)) (offsets_of size (length bytes))
    ∙ (flat_map-map (λ (offset : ℕ). chunk_of session k offset size) (λ (n : ℕ). n * size) (range_with_len 0 ((length bytes + size - 1) / size))
    ∙ (ap (λ (o : Option (List ℕ)). flat_map {X = ℕ} {A = ℕ} (λ n. take size (drop (n * size) (unwrap_or o []))) (range_with_len 0 ((length bytes + size - 1) / size))) at
    ∙ file_joined size bytes whole.some))))

pub mapped_places : (g : ℕ → List Operation) (h : List ℕ → List Operation) (files : List (List ℕ)) (from : ℕ)
    → ((k : ℕ) (bytes : List ℕ) → slice_get files k ≡ Some bytes → g (from + k) ≡ h bytes)
    → map {A = ℕ} {B = List Operation} g (range_with_len from (length files)) ≡ map {A = List ℕ} {B = List Operation} h files
mapped_places g h [] from same = refl
mapped_places g h (x ∷ files) from same =
    ap (λ (ops : List Operation). ops ∷ map {A = ℕ} {B = List Operation} g (range_with_len (from + 1) (length files)))
    (ap g (first_place) ∙ same 0 x refl)
    ∙ ap (λ (rest : List (List Operation)). h x ∷ rest)
    (mapped_places g h files (from + 1) (λ k bytes at. ap g (next_place k) ∙ same (suc k) bytes at))
  where
    first_place : from ≡ from + 0
    first_place = omega arith

    next_place : (k : ℕ) → from + 1 + k ≡ from + suc k
    next_place k = omega arith

pub sizes-length : (files : List (List ℕ)) → length (map {A = List ℕ} {B = ℕ} (λ file. length file) files) ≡ length files
sizes-length [] = refl
sizes-length (x ∷ files) = ap suc (sizes-length files)

-- the operations of the files that were fetched are the session's
pub fetched : (session : Session) (size : ℕ) (f : Fetch) → IsWholeFetch session size f → all_in (files_of size f) ≡ ops_of_session session
fetched session size f whole =
    ap all_in
    (ap (λ (n : ℕ). map {A = ℕ} {B = List Operation} (λ file. ops_in (file_bytes size f file)) (range_with_len 0 n))
    (ap (λ (sizes : List ℕ). length sizes) whole.same_sizes ∙ sizes-length session.files)
    ∙ mapped_places (λ file. ops_in (file_bytes size f file)) ops_in session.files 0
    (λ k bytes at. ap (λ (n : ℕ). ops_in (file_bytes size f n)) (zero_on k) ∙ ap ops_in (fetched_file session size f k bytes whole at)))
    ∙ flat_map-map (λ (part : List Operation). part) ops_in session.files
  where
    zero_on : (k : ℕ) → 0 + k ≡ k
    zero_on k = omega arith
