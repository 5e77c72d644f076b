-- The parts of a session's files, asked for one after the other.
use Rattle.std.proofs.Common.{◌≡◌, ℕ, zero, suc, ◌+◌, ◌-◌, ◌<◌, ◌≤◌, List, [], ◌∷◌, ◌++◌, length, take, drop, refl, sym, ◌∙◌, ap, append_assoc, arith}
use Rattle.std.proofs.lemmas.List.{append-nil}
use Rattle.ccr_wire.specs.Message.{Frame}
use Rattle.ccr_model.specs.Requests.{Sending, on_its_way}
use Rattle.ccr_model.specs.Restores.{Restore, fetching, Fetch, ChunkAsked, Chunk, without_ask, asks_chunk, asks_chunks, chunk_again, chunks_again}
use Rattle.ccr_restore.specs.declared.plan.Plan.{Plan}
use Rattle.ccr_restore.specs.declared.plan.Counters.{Counters}
use Rattle.ccr_restore.specs.Places.{Walk}
use Rattle.ccr_restore.specs.Stages.{restore_at}

-- the bootstrap in the midst of this fetch
abbrev pub at_fetch : Restore → Fetch → Restore
at_fetch r f = record r { stage = fetching f }

pub both : (x : Sending Restore) (next : Restore) (sent : List Frame) → next ≡ x.next → sent ≡ x.sent → x ≡ record { next = next; sent = sent }
both x next sent is says =
    let first : x ≡ record { next = next; sent = x.sent } = ap (λ (n : Restore). record { next = n; sent = x.sent }) (sym is) in
    first ∙ ap (λ (m : List Frame). record { next = next; sent = m }) (sym says)

-- ---- the next parts

pub chunks-turn_next : (m j : ℕ) (left rest : List (ℕ × ℕ)) (place : ℕ × ℕ) (r after total : Restore) (f : Fetch) → j ≡ suc m → left ≡ place ∷ rest → after ≡ (asks_chunk (at_fetch r f) f place).next
    → (asks_chunks (take j left) (at_fetch r f)).next ≡ total → (asks_chunks (take m rest) after).next ≡ total
chunks-turn_next m j left rest place r after total f one_more is goes before =
    ap (λ (s : Restore). (asks_chunks (take m rest) s).next) goes
    ∙ (sym (ap (λ (k : ℕ). (asks_chunks (take k left) (at_fetch r f)).next) one_more ∙ ap (λ (xs : List (ℕ × ℕ)). (asks_chunks (take (suc m) xs) (at_fetch r f)).next) is) ∙ before)

pub chunks-turn_sent : (m j : ℕ) (left rest : List (ℕ × ℕ)) (place : ℕ × ℕ) (r after : Restore) (f : Fetch) (sent more total : List Frame) (message : Frame) → j ≡ suc m → left ≡ place ∷ rest
    → after ≡ (asks_chunk (at_fetch r f) f place).next → message ∷ [] ≡ (asks_chunk (at_fetch r f) f place).sent → more ≡ sent ++ message ∷ []
    → sent ++ (asks_chunks (take j left) (at_fetch r f)).sent ≡ total → more ++ (asks_chunks (take m rest) after).sent ≡ total
chunks-turn_sent m j left rest place r after f sent more total message one_more is goes says pushed before =
    ap (λ (xs : List Frame). xs ++ (asks_chunks (take m rest) after).sent) (pushed ∙ ap (λ (xs : List Frame). sent ++ xs) says)
    ∙ (ap (λ (s : Restore). (sent ++ (asks_chunk (at_fetch r f) f place).sent) ++ (asks_chunks (take m rest) s).sent) goes
    ∙ (append_assoc sent (asks_chunk (at_fetch r f) f place).sent (asks_chunks (take m rest) (asks_chunk (at_fetch r f) f place).next).sent
    ∙ (sym (ap (λ (k : ℕ). sent ++ (asks_chunks (take k left) (at_fetch r f)).sent) one_more ∙ ap (λ (xs : List (ℕ × ℕ)). sent ++ (asks_chunks (take (suc m) xs) (at_fetch r f)).sent) is) ∙ before)))

pub chunks-end_next : (left : List (ℕ × ℕ)) (s total : Restore) → left ≡ [] → (asks_chunks left s).next ≡ total → s ≡ total
chunks-end_next left s total none before = sym (ap (λ (xs : List (ℕ × ℕ)). (asks_chunks xs s).next) none) ∙ before

pub chunks-end_sent : (left : List (ℕ × ℕ)) (s : Restore) (sent total : List Frame) → left ≡ [] → sent ++ (asks_chunks left s).sent ≡ total → sent ≡ total
chunks-end_sent left s sent total none before = sym (append-nil sent) ∙ (sym (ap (λ (xs : List (ℕ × ℕ)). sent ++ (asks_chunks xs s).sent) none) ∙ before)

-- a part that was asked for
pub asked-next : (plan : Plan) (counters counted : Counters) (session : ℕ) (history : List ℕ) (count : ℕ) (places passed : Walk) (asks more : List ChunkAsked) (parts : List Chunk) (place : ℕ × ℕ)
    → counted ≡ record counters { next_request = counters.next_request + 1 }
    → passed ≡ record places { asked = places.asked + 1 }
    → more ≡ asks ++ record { request = counters.next_request; file = place.0; offset = place.1; progress = on_its_way } ∷ []
    → restore_at plan counted (fetching (record { session = session; history = history; count = count; sizes = passed.sizes; asked = passed.asked; asks = more; chunks = parts }))
    ≡ (asks_chunk (restore_at plan counters (fetching (record { session = session; history = history; count = count; sizes = places.sizes; asked = places.asked; asks = asks; chunks = parts })))
    (record { session = session; history = history; count = count; sizes = places.sizes; asked = places.asked; asks = asks; chunks = parts }) place).next
asked-next plan counters counted session history count places passed asks more parts place by_one on is =
    ap (λ (c : Counters). restore_at plan c (fetching (record { session = session; history = history; count = count; sizes = passed.sizes; asked = passed.asked; asks = more; chunks = parts }))) by_one
    ∙ (ap (λ (w : Walk). restore_at plan (record counters { next_request = counters.next_request + 1 }) (fetching (record { session = session; history = history; count = count; sizes = w.sizes; asked = w.asked; asks = more; chunks = parts }))) on
    ∙ ap (λ (xs : List ChunkAsked). restore_at plan (record counters { next_request = counters.next_request + 1 }) (fetching (record { session = session; history = history; count = count; sizes = places.sizes; asked = places.asked + 1; asks = xs; chunks = parts }))) is)

-- ---- parts that are asked for again

pub again-turn_next : (a : ChunkAsked) (rest : List ChunkAsked) (r after total : Restore) (f : Fetch) → after ≡ (chunk_again (at_fetch r f) f a).next
    → (chunks_again (a ∷ rest) (at_fetch r f)).next ≡ total → (chunks_again rest after).next ≡ total
again-turn_next a rest r after total f goes before = ap (λ (s : Restore). (chunks_again rest s).next) goes ∙ before

pub again-turn_sent : (a : ChunkAsked) (rest : List ChunkAsked) (r after : Restore) (f : Fetch) (sent more total : List Frame) (message : Frame) → after ≡ (chunk_again (at_fetch r f) f a).next
    → message ∷ [] ≡ (chunk_again (at_fetch r f) f a).sent → more ≡ sent ++ message ∷ [] → sent ++ (chunks_again (a ∷ rest) (at_fetch r f)).sent ≡ total → more ++ (chunks_again rest after).sent ≡ total
again-turn_sent a rest r after f sent more total message goes says pushed before =
    ap (λ (xs : List Frame). xs ++ (chunks_again rest after).sent) (pushed ∙ ap (λ (xs : List Frame). sent ++ xs) says)
    ∙ (ap (λ (s : Restore). (sent ++ (chunk_again (at_fetch r f) f a).sent) ++ (chunks_again rest s).sent) goes
    ∙ (append_assoc sent (chunk_again (at_fetch r f) f a).sent (chunks_again rest (chunk_again (at_fetch r f) f a).next).sent ∙ before))

pub again-end_next : (left : List ChunkAsked) (s total : Restore) → left ≡ [] → (chunks_again left s).next ≡ total → s ≡ total
again-end_next left s total none before = sym (ap (λ (xs : List ChunkAsked). (chunks_again xs s).next) none) ∙ before

pub again-end_sent : (left : List ChunkAsked) (s : Restore) (sent total : List Frame) → left ≡ [] → sent ++ (chunks_again left s).sent ≡ total → sent ≡ total
again-end_sent left s sent total none before = sym (append-nil sent) ∙ (sym (ap (λ (xs : List ChunkAsked). sent ++ (chunks_again xs s).sent) none) ∙ before)

-- a part that was asked for again
pub again-next : (plan : Plan) (counters counted : Counters) (session : ℕ) (history : List ℕ) (count : ℕ) (places : Walk) (asks without more : List ChunkAsked) (parts : List Chunk) (a : ChunkAsked)
    → counted ≡ record counters { next_request = counters.next_request + 1 }
    → without ≡ without_ask a.request asks
    → more ≡ without ++ record { request = counters.next_request; file = a.file; offset = a.offset; progress = on_its_way } ∷ []
    → restore_at plan counted (fetching (record { session = session; history = history; count = count; sizes = places.sizes; asked = places.asked; asks = more; chunks = parts }))
    ≡ (chunk_again (restore_at plan counters (fetching (record { session = session; history = history; count = count; sizes = places.sizes; asked = places.asked; asks = asks; chunks = parts })))
    (record { session = session; history = history; count = count; sizes = places.sizes; asked = places.asked; asks = asks; chunks = parts }) a).next
again-next plan counters counted session history count places asks without more parts a by_one gone is =
    ap (λ (c : Counters). restore_at plan c (fetching (record { session = session; history = history; count = count; sizes = places.sizes; asked = places.asked; asks = more; chunks = parts }))) by_one
    ∙ ap (λ (xs : List ChunkAsked). restore_at plan (record counters { next_request = counters.next_request + 1 }) (fetching (record { session = session; history = history; count = count; sizes = places.sizes; asked = places.asked; asks = xs; chunks = parts })))
    (is ∙ ap (λ (xs : List ChunkAsked). xs ++ record { request = counters.next_request; file = a.file; offset = a.offset; progress = on_its_way } ∷ []) gone)
