-- An operation that is read is spelled so, and what is spelled so is read.
use Rattle.std.proofs.Common.{true, ◌≡◌, ℕ, ◌+◌, ◌-◌, ◌^◌, ◌<◌, ◌≤◌, eqb, List, [], ◌∷◌, ◌++◌, length, drop, Some, None, Result, Ok, Err, refl, sym, ap, subst, ◌∙◌, append_assoc, arith, inl, inr}
use Rattle.std.specs.Int.{w16, w32, w64, to_be_bytes}
use Rattle.std.proofs.lemmas.Bool.{eqb-true}
use Rattle.std.proofs.lemmas.List.{append-nil, drop_at, length-append, length-drop}
use Rattle.std.specs.Prelude.{IfOk}
use Rattle.ccr_op.specs.declared.operation.Kind.{Kind}
use Rattle.ccr_op.specs.declared.operation.Kind.TheVariants.{Index, Delete, NoOp}
use Rattle.ccr_op.specs.declared.bad_op.BadOp.{BadOp}
use Rattle.ccr_op.specs.declared.bad_op.BadOp.TheVariants as faults
use Rattle.ccr_op.specs.Ids.{IsIdText}
use Rattle.ccr_op.specs.Operation.{Operation, HasSpelling, IsSourceText}
use Rattle.ccr_op.specs.Fields.{counted}
use Rattle.ccr_op.specs.Spelling.{kind_byte, kind_fields, spelling}
use Rattle.ccr_op.specs.Reading.{Gives, Fails, numbered, measured, u64_at, id_at, source_at, index_at, delete_at, routed_index_at, routed_delete_at, no_op_at, kind_at, operation_at}
use Rattle.ccr_op.proofs.FieldLaws.{IsBytes, Takes, Reads, IsField, reads_then, reads_ok, wide16, wide32, wide64, number_field, number_again, byte_field, bounded_text_field, bounded_text_again, IsBoundedText, chosen, ok_is}

u64_field : (bytes : List ℕ) → IsBytes bytes → IsField bytes (u64_at bytes) (λ n. to_be_bytes w64 n) (λ n. n < 2 ^ 64)
u64_field bytes fits = number_field faults.Short w64 (2 ^ 64) wide64 bytes fits

id_field : (bytes : List ℕ) → IsBytes bytes → IsField bytes (id_at bytes) (counted w16) (λ id. IsIdText id)
id_field bytes fits =
    let field = bounded_text_field faults.Short faults.Length faults.Utf8 w16 (2 ^ 16) 1 512 wide16 bytes fits in
    record { at = λ x e. let h = field.at x e in (h.0, record { some = h.1.size.some; few = h.1.size.few; text = h.1.utf8 }) }

source_field : (bytes : List ℕ) → IsBytes bytes → IsField bytes (source_at bytes) (counted w32) (λ body. IsSourceText body)
source_field bytes fits =
    let field = bounded_text_field faults.Short faults.Length faults.Utf8 w32 (2 ^ 32) 2 524288 wide32 bytes fits in
    record { at = λ x e. let h = field.at x e in (h.0, record { some = h.1.size.some; few = h.1.size.few; text = h.1.utf8 }) }

-- the operation, and what follows its kind byte
pub record IsBehind (kind : ℕ) (op : Operation) (part : List ℕ) : Type 0 where
  pub spelled : kind ∷ part ≡ spelling op
  pub fits : HasSpelling op

index_reads : (bytes : List ℕ) → IsBytes bytes → Reads bytes (index_at bytes) (IsBehind 1)
unfolding index_at
index_reads bytes fits =
    reads_then _ (u64_field bytes fits) (λ seq after_seq fits1 seq_fits.
    reads_then _ (u64_field after_seq fits1) (λ term after_term fits2 term_fits.
    reads_then _ (u64_field after_term fits2) (λ version after_version fits3 version_fits.
    reads_then _ (id_field after_version fits3) (λ id after_id fits4 id_fits.
    reads_then _ (source_field after_id fits4) (λ body rest fits5 body_fits.
    reads_ok fits5 (record { spelled = rw append-nil refl; fits = record { seq = seq_fits; term = term_fits; version = version_fits; kind = (id_fits, tt, body_fits) } }))))))

delete_reads : (bytes : List ℕ) → IsBytes bytes → Reads bytes (delete_at bytes) (IsBehind 2)
unfolding delete_at
delete_reads bytes fits =
    reads_then _ (u64_field bytes fits) (λ seq after_seq fits1 seq_fits.
    reads_then _ (u64_field after_seq fits1) (λ term after_term fits2 term_fits.
    reads_then _ (u64_field after_term fits2) (λ version after_version fits3 version_fits.
    reads_then _ (id_field after_version fits3) (λ id rest fits4 id_fits.
    reads_ok fits4 (record { spelled = refl; fits = record { seq = seq_fits; term = term_fits; version = version_fits; kind = (id_fits, tt) } })))))

routed_index_reads : (bytes : List ℕ) → IsBytes bytes → Reads bytes (routed_index_at bytes) (IsBehind 4)
unfolding routed_index_at
routed_index_reads bytes fits =
    reads_then _ (u64_field bytes fits) (λ seq after_seq fits1 seq_fits.
    reads_then _ (u64_field after_seq fits1) (λ term after_term fits2 term_fits.
    reads_then _ (u64_field after_term fits2) (λ version after_version fits3 version_fits.
    reads_then _ (id_field after_version fits3) (λ id after_id fits4 id_fits.
    reads_then _ (id_field after_id fits4) (λ routing after_routing fits5 routing_fits.
    reads_then _ (source_field after_routing fits5) (λ body rest fits6 body_fits.
    reads_ok fits6 (record { spelled = rw append-nil refl; fits = record { seq = seq_fits; term = term_fits; version = version_fits; kind = (id_fits, routing_fits, body_fits) } })))))))

routed_delete_reads : (bytes : List ℕ) → IsBytes bytes → Reads bytes (routed_delete_at bytes) (IsBehind 5)
unfolding routed_delete_at
routed_delete_reads bytes fits =
    reads_then _ (u64_field bytes fits) (λ seq after_seq fits1 seq_fits.
    reads_then _ (u64_field after_seq fits1) (λ term after_term fits2 term_fits.
    reads_then _ (u64_field after_term fits2) (λ version after_version fits3 version_fits.
    reads_then _ (id_field after_version fits3) (λ id after_id fits4 id_fits.
    reads_then _ (id_field after_id fits4) (λ routing rest fits5 routing_fits.
    reads_ok fits5 (record { spelled = rw append-nil refl; fits = record { seq = seq_fits; term = term_fits; version = version_fits; kind = (id_fits, routing_fits) } }))))))

no_op_reads : (bytes : List ℕ) → IsBytes bytes → Reads bytes (no_op_at bytes) (IsBehind 3)
unfolding no_op_at
no_op_reads bytes fits =
    reads_then _ (u64_field bytes fits) (λ seq after_seq fits1 seq_fits.
    reads_then _ (u64_field after_seq fits1) (λ term rest fits2 term_fits.
    reads_ok fits2 (record { spelled = refl; fits = record { seq = seq_fits; term = term_fits; version = omega arith; kind = refl } })))

-- what is read behind a kind byte that is the one that was tested for
behind : (kind byte : ℕ) (bytes : List ℕ) (r : Result (Operation × List ℕ) BadOp) (x : Operation × List ℕ) → Reads bytes r (IsBehind byte)
    → (eqb kind byte ≡ true) × (r ≡ Ok x) → (part : List ℕ) × Takes bytes part x.1 × IsBehind kind x.0 part
behind kind byte bytes r x reads h = subst (λ k. (part : List ℕ) × Takes bytes part x.1 × IsBehind k x.0 part) (sym (eqb-true kind byte h.0)) (reads.at x h.1)

kind_reads : (kind : ℕ) (bytes : List ℕ) → IsBytes bytes → Reads bytes (kind_at kind bytes) (IsBehind kind)
unfolding kind_at
kind_reads kind bytes fits = record {
  at = λ x e.
      elim (chosen (eqb kind 1) _ _ (Ok x) e) [
        | inl h ↦ behind kind 1 bytes (index_at bytes) x (index_reads bytes fits) h
        | inr others ↦ elim (chosen (eqb kind 2) _ _ (Ok x) others.1) [
          | inl h ↦ behind kind 2 bytes (delete_at bytes) x (delete_reads bytes fits) h
          | inr others2 ↦ elim (chosen (eqb kind 3) _ _ (Ok x) others2.1) [
            | inl h ↦ behind kind 3 bytes (no_op_at bytes) x (no_op_reads bytes fits) h
            | inr others3 ↦ elim (chosen (eqb kind 4) _ _ (Ok x) others3.1) [
              | inl h ↦ behind kind 4 bytes (routed_index_at bytes) x (routed_index_reads bytes fits) h
              | inr others4 ↦ elim (chosen (eqb kind 5) _ _ (Ok x) others4.1) [
                | inl h ↦ behind kind 5 bytes (routed_delete_at bytes) x (routed_delete_reads bytes fits) h
                | inr h ↦ absurd cc
              ]
            ]
          ]
        ]
      ];
}

-- what is read is spelled so
pub operation_takes : (bytes : List ℕ) (x : Operation × List ℕ) → IsBytes bytes → operation_at bytes ≡ Ok x → Takes bytes (spelling x.0) x.1 × HasSpelling x.0
unfolding operation_at
operation_takes bytes x fits e =
    let read : Reads bytes (operation_at bytes) (λ op part. (part ≡ spelling op) × HasSpelling op) =
    reads_then _ (byte_field faults.Short bytes fits) (λ kind rest fits1 _. record {
      at = λ y h. let below = (kind_reads kind rest fits1).at y h in (below.0, below.1, (below.2.spelled, below.2.fits));
    }) in
    let found = read.at x e in
    (subst (λ part. Takes bytes part x.1) found.2.0 found.1, found.2.1)

id_within : (id : List ℕ) → IsIdText id → IsBoundedText (2 ^ 16) 1 512 id
id_within id h = record { size = record { fits = omega (arith, h.few); some = h.some; few = h.few }; utf8 = h.text }

source_within : (body : List ℕ) → IsSourceText body → IsBoundedText (2 ^ 32) 2 524288 body
source_within body h = record { size = record { fits = omega (arith, h.few); some = h.some; few = h.few }; utf8 = h.text }

u64_again : (n : ℕ) (rest : List ℕ) → n < 2 ^ 64 → u64_at (to_be_bytes w64 n ++ rest) ≡ Ok (n, rest)
u64_again n rest h = number_again faults.Short w64 (2 ^ 64) wide64 n rest h

id_again : (id rest : List ℕ) → IsIdText id → id_at (counted w16 id ++ rest) ≡ Ok (id, rest)
id_again id rest h = bounded_text_again faults.Short faults.Length faults.Utf8 w16 (2 ^ 16) 1 512 wide16 id rest (id_within id h)

source_again : (body rest : List ℕ) → IsSourceText body → source_at (counted w32 body ++ rest) ≡ Ok (body, rest)
source_again body rest h = bounded_text_again faults.Short faults.Length faults.Utf8 w32 (2 ^ 32) 2 524288 wide32 body rest (source_within body h)

kind_again : (seq term version : ℕ) (kind : Kind) (rest : List ℕ) → HasSpelling (record { seq = seq; term = term; version = version; kind = kind })
    → kind_at (kind_byte kind) (to_be_bytes w64 seq ++ (to_be_bytes w64 term ++ (kind_fields version kind ++ rest))) ≡ Ok (record { seq = seq; term = term; version = version; kind = kind }, rest)
unfolding kind_at index_at delete_at routed_index_at routed_delete_at no_op_at
kind_again seq term version (Index id None body) rest h =
    let regrouped : kind_fields version (Index id None body) ++ rest ≡ to_be_bytes w64 version ++ (counted w16 id ++ (counted w32 body ++ rest)) = ap (λ (x : List ℕ). to_be_bytes w64 version ++ x) (append_assoc (counted w16 id) (counted w32 body) rest) in
    ap (λ (x : List ℕ). index_at (to_be_bytes w64 seq ++ (to_be_bytes w64 term ++ x))) regrouped
    ∙ rw (u64_again seq (to_be_bytes w64 term ++ (to_be_bytes w64 version ++ (counted w16 id ++ (counted w32 body ++ rest)))) h.seq, u64_again term (to_be_bytes w64 version ++ (counted w16 id ++ (counted w32 body ++ rest))) h.term, u64_again version (counted w16 id ++ (counted w32 body ++ rest)) h.version, id_again id (counted w32 body ++ rest) h.kind.0, source_again body rest h.kind.2) refl
kind_again seq term version (Delete id None) rest h =
    let regrouped : kind_fields version (Delete id None) ++ rest ≡ to_be_bytes w64 version ++ (counted w16 id ++ rest) = ap (λ (x : List ℕ). to_be_bytes w64 version ++ (x ++ rest)) (append-nil (counted w16 id)) in
    ap (λ (x : List ℕ). delete_at (to_be_bytes w64 seq ++ (to_be_bytes w64 term ++ x))) regrouped
    ∙ rw (u64_again seq (to_be_bytes w64 term ++ (to_be_bytes w64 version ++ (counted w16 id ++ rest))) h.seq, u64_again term (to_be_bytes w64 version ++ (counted w16 id ++ rest)) h.term, u64_again version (counted w16 id ++ rest) h.version, id_again id rest h.kind.0) refl
kind_again seq term version (Index id (Some routing) body) rest h =
    let behind_routing : List ℕ = counted w32 body ++ rest in
    let behind_id : List ℕ = counted w16 routing ++ behind_routing in
    let behind_version : List ℕ = counted w16 id ++ behind_id in
    let regrouped : kind_fields version (Index id (Some routing) body) ++ rest ≡ to_be_bytes w64 version ++ behind_version =
    ap (λ (x : List ℕ). to_be_bytes w64 version ++ x) (append_assoc (counted w16 id) (counted w16 routing ++ counted w32 body) rest ∙ ap (λ (x : List ℕ). counted w16 id ++ x) (append_assoc (counted w16 routing) (counted w32 body) rest)) in
    ap (λ (x : List ℕ). routed_index_at (to_be_bytes w64 seq ++ (to_be_bytes w64 term ++ x))) regrouped
    ∙ rw (u64_again seq (to_be_bytes w64 term ++ (to_be_bytes w64 version ++ behind_version)) h.seq, u64_again term (to_be_bytes w64 version ++ behind_version) h.term, u64_again version behind_version h.version, id_again id behind_id h.kind.0, id_again routing behind_routing h.kind.1, source_again body rest h.kind.2) refl
kind_again seq term version (Delete id (Some routing)) rest h =
    let behind_id : List ℕ = counted w16 routing ++ rest in
    let behind_version : List ℕ = counted w16 id ++ behind_id in
    let regrouped : kind_fields version (Delete id (Some routing)) ++ rest ≡ to_be_bytes w64 version ++ behind_version = ap (λ (x : List ℕ). to_be_bytes w64 version ++ x) (append_assoc (counted w16 id) (counted w16 routing) rest) in
    ap (λ (x : List ℕ). routed_delete_at (to_be_bytes w64 seq ++ (to_be_bytes w64 term ++ x))) regrouped
    ∙ rw (u64_again seq (to_be_bytes w64 term ++ (to_be_bytes w64 version ++ behind_version)) h.seq, u64_again term (to_be_bytes w64 version ++ behind_version) h.term, u64_again version behind_version h.version, id_again id behind_id h.kind.0, id_again routing rest h.kind.1) refl
kind_again seq term version NoOp rest h =
    rw (u64_again seq (to_be_bytes w64 term ++ rest) h.seq, u64_again term rest h.term) (ap (λ (v : ℕ). Ok (record { seq = seq; term = term; version = v; kind = NoOp }, rest)) (sym h.kind))

-- what is spelled so is read
pub operation_again : (op : Operation) (rest : List ℕ) → HasSpelling op → operation_at (spelling op ++ rest) ≡ Ok (op, rest)
unfolding operation_at
operation_again op rest h =
    let parts = to_be_bytes w64 op.seq ++ (to_be_bytes w64 op.term ++ (kind_fields op.version op.kind ++ rest)) in
    kind_again op.seq op.term op.version op.kind rest (record { seq = h.seq; term = h.term; version = h.version; kind = h.kind })

-- no spelling begins another
pub spelling_alone : (a b : Operation) (rest : List ℕ) → HasSpelling a → HasSpelling b → spelling b ≡ spelling a ++ rest → (a ≡ b) × (rest ≡ [])
spelling_alone a b rest ha hb e =
    let one : operation_at (spelling b) ≡ Ok (a, rest) = ap operation_at e ∙ operation_again a rest ha in
    let two : operation_at (spelling b) ≡ Ok (b, []) = ap operation_at (sym (append-nil (spelling b))) ∙ operation_again b [] hb in
    let three : (a, rest) ≡ (b, []) = ok_is {E = BadOp} (a, rest) (b, []) (sym one ∙ two) in
    (ap (λ (x : Operation × List ℕ). x.0) three, ap (λ (x : Operation × List ℕ). x.1) three)

-- an operation that was read and the bytes after it are all of the bytes
operation_sized : (bytes : List ℕ) (x : Operation × List ℕ) → IsBytes bytes → operation_at bytes ≡ Ok x → length bytes ≡ length (spelling x.0) + length x.1
operation_sized bytes x fits e = ap length (operation_takes bytes x fits e).0.parts ∙ length-append (spelling x.0) x.1

-- what reading leaves is the end of the bytes
pub operation_rest : (bytes : List ℕ) (x : Operation × List ℕ) → IsBytes bytes → operation_at bytes ≡ Ok x → (drop (length bytes - length x.1) bytes ≡ x.1) × (length x.1 ≤ length bytes)
operation_rest bytes x fits e =
    let parts = (operation_takes bytes x fits e).0.parts in
    let whole : length bytes ≡ length (spelling x.0) + length x.1 = operation_sized bytes x fits e in
    let front : length (spelling x.0) ≡ length bytes - length x.1 = omega arith in
    (ap (drop (length bytes - length x.1)) parts ∙ drop_at (spelling x.0) x.1 (length bytes - length x.1) front, omega arith)

pub is_found : (bytes : List ℕ) (r : Result (Operation × ℕ) BadOp) → IsBytes bytes → Gives (λ x. (x.0, drop x.1 bytes)) r (operation_at bytes)
    → IfOk r (λ x. HasSpelling x.0 × (bytes ≡ spelling x.0 ++ drop x.1 bytes))
is_found bytes (Ok x) fits given = let t = operation_takes bytes (x.0, drop x.1 bytes) fits given in (t.1, t.0.parts)
is_found bytes (Err e) fits given = tt

pub is_sized : (bytes : List ℕ) (r : Result (Operation × ℕ) BadOp) → IsBytes bytes → Gives (λ x. (x.0, drop x.1 bytes)) r (operation_at bytes)
    → IfOk r (λ x. x.1 ≤ length bytes) → IfOk r (λ x. x.1 ≡ length (spelling x.0))
is_sized bytes (Ok x) fits given within =
    let parts = (operation_takes bytes (x.0, drop x.1 bytes) fits given).0.parts in
    let whole : length bytes ≡ length (spelling x.0) + length (drop x.1 bytes) = ap length parts ∙ length-append (spelling x.0) (drop x.1 bytes) in
    omega (arith, whole, length-drop x.1 bytes, within)
is_sized bytes (Err e) fits given within = tt

is_given : (bytes : List ℕ) (op : Operation) (rest : List ℕ) (r : Result (Operation × ℕ) BadOp) (read : Result (Operation × List ℕ) BadOp) → read ≡ Ok (op, rest)
    → Gives (λ x. (x.0, drop x.1 bytes)) r read → IfOk r (λ x. x.1 ≡ length (spelling x.0)) → Gives {Y = Operation × ℕ} (λ x. (x.0, x.1)) r (Ok (op, length (spelling op)))
is_given bytes op rest (Ok x) read e given size =
    let same : (op, rest) ≡ (x.0, drop x.1 bytes) = ok_is {E = BadOp} (op, rest) (x.0, drop x.1 bytes) (sym e ∙ given) in
    let op-is : op ≡ x.0 = ap (λ (y : Operation × List ℕ). y.0) same in
    let pair : (op, length (spelling op)) ≡ (x.0, x.1) = ap (λ (o : Operation). (o, length (spelling o))) op-is ∙ ap (λ (n : ℕ). (x.0, n)) (sym size) in
    ap (λ (y : Operation × ℕ). Ok y) pair
is_given bytes op rest (Err faults.Memory) read e given size = tt
is_given bytes op rest (Err faults.Short) read e given size = absurd cc
is_given bytes op rest (Err faults.Kind) read e given size = absurd cc
is_given bytes op rest (Err faults.Length) read e given size = absurd cc
is_given bytes op rest (Err faults.Utf8) read e given size = absurd cc

pub is_only : (bytes : List ℕ) (r : Result (Operation × ℕ) BadOp) → IsBytes bytes → Gives (λ x. (x.0, drop x.1 bytes)) r (operation_at bytes) → IfOk r (λ x. x.1 ≤ length bytes)
    → (op : Operation) (rest : List ℕ) → HasSpelling op → bytes ≡ spelling op ++ rest → Gives {Y = Operation × ℕ} (λ x. (x.0, x.1)) r (Ok (op, length (spelling op)))
is_only bytes r fits given within op rest h e =
    is_given bytes op rest r (operation_at bytes) (ap operation_at e ∙ operation_again op rest h) given (is_sized bytes r fits given within)

-- a fault that reading gives is the fault that a call may answer
pub fault_given : (e : BadOp) → Fails {Y = Operation × List ℕ} e (Err e)
fault_given faults.Short = refl
fault_given faults.Kind = refl
fault_given faults.Length = refl
fault_given faults.Utf8 = refl
fault_given faults.Memory = tt

-- a text that was read behind its length
pub text_fault_given : (e : BadOp) → Fails {Y = List ℕ × List ℕ} e (Err e)
text_fault_given faults.Short = refl
text_fault_given faults.Kind = refl
text_fault_given faults.Length = refl
text_fault_given faults.Utf8 = refl
text_fault_given faults.Memory = tt

ok_parts : (a b : ℕ) (xs ys : List ℕ) → (let r : Result (ℕ × List ℕ) BadOp = Ok (a, xs) in r ≡ Ok (b, ys)) → (a ≡ b) × (xs ≡ ys)
ok_parts a b xs ys e =
    let same : (let x : ℕ × List ℕ = (a, xs) in x ≡ (b, ys)) = ok_is {E = BadOp} (a, xs) (b, ys) e in
    (ap (λ (p : ℕ × List ℕ). p.0) same, ap (λ (p : ℕ × List ℕ). p.1) same)

measures_from : (bytes : List ℕ) (r : Result (Operation × List ℕ) BadOp) (seq : ℕ) (rest : List ℕ) → ((x : Operation × List ℕ) → r ≡ Ok x → length bytes ≡ length (spelling x.0) + length x.1)
    → numbered r ≡ Ok (seq, rest) → (length rest ≤ length bytes) × (measured r ≡ Ok (seq, length bytes - length rest))
measures_from bytes (Ok x) seq rest sized e =
    let parts = ok_parts x.0.seq seq x.1 rest e in
    let rest-is : length x.1 ≡ length rest = ap length parts.1 in
    let whole : length bytes ≡ length (spelling x.0) + length x.1 = sized x refl in
    let size : length (spelling x.0) ≡ length bytes - length rest = omega (arith, whole, rest-is) in
    (omega (arith, whole, rest-is), rw (parts.0, size) refl)
measures_from bytes (Err e) seq rest sized h = absurd cc

-- what is left behind the operation tells its length
pub measures : (bytes : List ℕ) (seq : ℕ) (rest : List ℕ) → IsBytes bytes → numbered (operation_at bytes) ≡ Ok (seq, rest)
    → (length rest ≤ length bytes) × (measured (operation_at bytes) ≡ Ok (seq, length bytes - length rest))
measures bytes seq rest fits e = measures_from bytes (operation_at bytes) seq rest (λ x read. operation_sized bytes x fits read) e

-- a fault of the numbered reading is one of the measured reading
pub measures_fault : (r : Result (Operation × List ℕ) BadOp) (e : BadOp) → numbered r ≡ Err e → measured r ≡ Err e
measures_fault (Ok x) e h = absurd cc
measures_fault (Err d) e h = let same : d ≡ e = cc in ap (λ (x : BadOp). Err x) same
