-- The fields of frames: one that is read is the one that was written, and what was written is read again.
use Rattle.std.proofs.Common.{◌≡◌, ℕ, zero, suc, ◌+◌, ◌^◌, ◌≤◌, Bool, true, cond, eqb, List, [], ◌∷◌, ◌++◌, length, Option, Some, None, Result, Ok, Err, refl, sym, ap, subst, ◌∙◌, append_assoc, arith, inl, inr, eq-eqb}
use Rattle.std.specs.Prelude.{find}
use Rattle.std.specs.Option.{ok_or}
use Rattle.std.specs.List.{flat_map, AllByRecursion}
use Rattle.std.specs.Int.{w16, w32, w64, to_be_bytes}
use Rattle.std.proofs.lemmas.Bool.{eqb-true}
use Rattle.std.proofs.lemmas.List.Concat.{flat_map-cons}
use Rattle.ccr_op.specs.Ids.{IsIdText}
use Rattle.ccr_op.specs.Operation.{Operation, HasSpelling as OpHasSpelling}
use Rattle.ccr_op.specs.Fields.{◌>>=◌, counted, byte_at, bytes_at}
use Rattle.ccr_op.specs.Spelling.{spelling as op_spelling}
use Rattle.ccr_op.specs.Reading.{operation_at}
use Rattle.ccr_op.specs.declared.bad_op.BadOp.{BadOp}
use Rattle.ccr_op.specs.declared.bad_op.BadOp.TheVariants as op_faults
use Rattle.ccr_op.proofs.FieldLaws.{IsBytes, Takes, Takes-then, IsField, wide16, wide32, wide64, number_field, number_again, byte_field, bytes_field, bytes_again, bounded_field, bounded_again, bounded_text_field, bounded_text_again, chosen, guard_holds, bind_ok, ok_is}
use Rattle.ccr_op.proofs.OperationLaws.{operation_takes, operation_again}
use Rattle.ccr_wire.specs.declared.bad_frame.BadFrame.{BadFrame}
use Rattle.ccr_wire.specs.declared.bad_frame.BadFrame.TheVariants as faults
use Rattle.ccr_wire.specs.declared.kind.FrameKind.{FrameKind}
use Rattle.ccr_wire.specs.declared.kind.FrameKind.TheVariants as kinds
use Rattle.ccr_wire.specs.declared.kind.LeaseResult.{LeaseResult}
use Rattle.ccr_wire.specs.declared.kind.LeaseResult.TheVariants as results
use Rattle.ccr_wire.specs.Kinds.{byte_of, all_kinds, kind_of, result_byte, all_results, result_of}
use Rattle.ccr_wire.specs.Message.{IsUuid, IsU64, IsU32, IsRun, NumberFits}
use Rattle.ccr_wire.specs.Spelling.{u32, u64}
use Rattle.ccr_wire.specs.Reading.{u32_at, u64_at, uuid_at, id_at, size_at, chunk_at, kind_at, result_at, answered_at, as_field, op_at, ops_at, sizes_at}

-- ---- numbers, ids and parts of files

pub u32_field : (bytes : List ℕ) → IsBytes bytes → IsField bytes (u32_at bytes) u32 IsU32
u32_field bytes fits = number_field faults.Short w32 (2 ^ 32) wide32 bytes fits

pub u64_field : (bytes : List ℕ) → IsBytes bytes → IsField bytes (u64_at bytes) u64 IsU64
u64_field bytes fits = number_field faults.Short w64 (2 ^ 64) wide64 bytes fits

pub uuid_field : (bytes : List ℕ) → IsBytes bytes → IsField bytes (uuid_at bytes) (λ id. id) IsUuid
uuid_field bytes fits = bytes_field faults.Short 16 bytes fits

pub id_field : (bytes : List ℕ) → IsBytes bytes → IsField bytes (id_at bytes) (counted w16) (λ id. IsIdText id)
id_field bytes fits =
    let field = bounded_text_field faults.Short faults.Length faults.Field w16 (2 ^ 16) 1 512 wide16 bytes fits in
    record { at = λ x e. let h = field.at x e in (h.0, record { some = h.1.size.some; few = h.1.size.few; text = h.1.utf8 }) }

abbrev pub IsPartSize : ℕ → Type 0
IsPartSize n = (1 ≤ n) × (n ≤ 16777216)

pub size_field : (bytes : List ℕ) → IsBytes bytes → IsField bytes (size_at bytes) u32 IsPartSize
size_field bytes fits =
    let field = bounded_field faults.Short faults.Length w32 (2 ^ 32) 1 16777216 wide32 bytes fits in
    record { at = λ x e. let h = field.at x e in (h.0, (h.1.some, h.1.few)) }

pub chunk_field : (bytes : List ℕ) → IsBytes bytes → IsField bytes (chunk_at bytes) (counted w32) (λ part. IsPartSize (length part))
unfolding chunk_at
chunk_field bytes fits = record {
  at = λ x e.
      let b = bind_ok (size_at bytes) (λ size. bytes_at faults.Short size.0 size.1) x e in
      let t = (size_field bytes fits).at b.0 b.1 in
      let u = (bytes_field faults.Short b.0.0 b.0.1 t.0.rest_fits).at x b.2 in
      let both = Takes-then bytes (to_be_bytes w32 b.0.0) b.0.1 x.0 x.1 t.0 u.0 in
      let size : b.0.0 ≡ length x.0 = sym u.1 in
      (subst (λ (k : ℕ). Takes bytes (to_be_bytes w32 k ++ x.0) x.1) size both, subst IsPartSize size t.1);
}

pub u32_again : (n : ℕ) (rest : List ℕ) → IsU32 n → u32_at (u32 n ++ rest) ≡ Ok (n, rest)
u32_again n rest h = number_again faults.Short w32 (2 ^ 32) wide32 n rest h

pub u64_again : (n : ℕ) (rest : List ℕ) → IsU64 n → u64_at (u64 n ++ rest) ≡ Ok (n, rest)
u64_again n rest h = number_again faults.Short w64 (2 ^ 64) wide64 n rest h

pub uuid_again : (id rest : List ℕ) → IsUuid id → uuid_at (id ++ rest) ≡ Ok (id, rest)
uuid_again id rest h = bytes_again faults.Short 16 id rest h

pub id_again : (id rest : List ℕ) → IsIdText id → id_at (counted w16 id ++ rest) ≡ Ok (id, rest)
id_again id rest h = bounded_text_again faults.Short faults.Length faults.Field w16 (2 ^ 16) 1 512 wide16 id rest (record { size = record { fits = omega (arith, h.few); some = h.some; few = h.few }; utf8 = h.text })

pub size_again : (n : ℕ) (rest : List ℕ) → IsPartSize n → size_at (u32 n ++ rest) ≡ Ok (n, rest)
size_again n rest h = bounded_again faults.Short faults.Length w32 (2 ^ 32) 1 16777216 wide32 n rest (record { fits = omega (arith, h.1); some = h.0; few = h.1 })

pub chunk_again : (part rest : List ℕ) → IsPartSize (length part) → chunk_at (counted w32 part ++ rest) ≡ Ok (part, rest)
unfolding chunk_at
chunk_again part rest h = rw (size_again (length part) (part ++ rest) h) (bytes_again faults.Short (length part) part rest refl)

-- ---- the kind and the result

some_is : {X : Type 0} (x y : X) → (let o : Option X = Some x in o) ≡ Some y → x ≡ y
some_is x y e = cc

-- what is found passes the test
found : {X : Type 0} (p : X → Bool) (xs : List X) (x : X) → find p xs ≡ Some x → p x ≡ true
found p [] x e = absurd cc
found p (y ∷ ys) x e =
    elim (chosen (p y) (Some y) (find p ys) (Some x) e) [
      | inl h ↦ subst (λ z. p z ≡ true) (some_is y x h.1) h.0
      | inr h ↦ found p ys x h.1
    ]

ok_or_some : {X E : Type 0} (o : Option X) (d : E) (x : X) → ok_or o d ≡ Ok x → o ≡ Some x
ok_or_some (Some y) d x e = cc
ok_or_some None d x e = absurd cc

kind_is : (n : ℕ) (kind : FrameKind) → kind_of n ≡ Some kind → byte_of kind ≡ n
unfolding kind_of
kind_is n kind e = eqb-true (byte_of kind) n (found (λ k. eqb (byte_of k) n) all_kinds kind e)

result_is : (n : ℕ) (outcome : LeaseResult) → result_of n ≡ Some outcome → result_byte outcome ≡ n
unfolding result_of
result_is n outcome e = eqb-true (result_byte outcome) n (found (λ k. eqb (result_byte k) n) all_results outcome e)

pub kind_again : (kind : FrameKind) → kind_of (byte_of kind) ≡ Some kind
unfolding kind_of
kind_again kinds.ReadRequest = refl
kind_again kinds.ReadReply = refl
kind_again kinds.ReadMissing = refl
kind_again kinds.ReadHistory = refl
kind_again kinds.LeaseAdd = refl
kind_again kinds.LeaseAdded = refl
kind_again kinds.LeaseRenew = refl
kind_again kinds.LeaseRemove = refl
kind_again kinds.LeaseAnswer = refl
kind_again kinds.SessionOpen = refl
kind_again kinds.SessionOpened = refl
kind_again kinds.ChunkRequest = refl
kind_again kinds.ChunkReply = refl
kind_again kinds.SessionGone = refl
kind_again kinds.NotReady = refl

pub result_again : (outcome : LeaseResult) → result_of (result_byte outcome) ≡ Some outcome
unfolding result_of
result_again results.Ok = refl
result_again results.Exists = refl
result_again results.NotFound = refl
result_again results.LowNumber = refl

pub kind_field : (bytes : List ℕ) → IsBytes bytes → IsField bytes (kind_at bytes) (λ kind. byte_of kind ∷ []) (λ _. Unit {0})
unfolding kind_at
kind_field bytes fits = record {
  at = λ x e.
      let b = bind_ok (byte_at faults.Short bytes) (λ byte. ok_or (kind_of byte.0) faults.Kind >>= λ kind. Ok (kind, byte.1)) x e in
      let d = bind_ok (ok_or (kind_of b.0.0) faults.Kind) (λ kind. Ok (kind, b.0.1)) x b.2 in
      let byte-is = kind_is b.0.0 d.0 (ok_or_some (kind_of b.0.0) faults.Kind d.0 d.1) in
      let t = ((byte_field faults.Short bytes fits).at b.0 b.1).0 in
      let same : (d.0, b.0.1) ≡ x = ok_is {E = BadFrame} (d.0, b.0.1) x d.2 in
      (subst (λ (y : FrameKind × List ℕ). Takes bytes (byte_of y.0 ∷ []) y.1) same (subst (λ (n : ℕ). Takes bytes (n ∷ []) b.0.1) (sym byte-is) t), tt);
}

pub result_field : (bytes : List ℕ) → IsBytes bytes → IsField bytes (result_at bytes) (λ outcome. result_byte outcome ∷ []) (λ _. Unit {0})
unfolding result_at
result_field bytes fits = record {
  at = λ x e.
      let b = bind_ok (byte_at faults.Short bytes) (λ byte. ok_or (result_of byte.0) faults.Field >>= λ outcome. Ok (outcome, byte.1)) x e in
      let d = bind_ok (ok_or (result_of b.0.0) faults.Field) (λ outcome. Ok (outcome, b.0.1)) x b.2 in
      let byte-is = result_is b.0.0 d.0 (ok_or_some (result_of b.0.0) faults.Field d.0 d.1) in
      let t = ((byte_field faults.Short bytes fits).at b.0 b.1).0 in
      let same : (d.0, b.0.1) ≡ x = ok_is {E = BadFrame} (d.0, b.0.1) x d.2 in
      (subst (λ (y : LeaseResult × List ℕ). Takes bytes (result_byte y.0 ∷ []) y.1) same (subst (λ (n : ℕ). Takes bytes (n ∷ []) b.0.1) (sym byte-is) t), tt);
}

abbrev pub IsAnswered : LeaseResult → ℕ → Type 0
IsAnswered outcome n = IsU64 n × NumberFits outcome n

pub answered_field : (outcome : LeaseResult) (bytes : List ℕ) → IsBytes bytes → IsField bytes (answered_at outcome bytes) u64 (IsAnswered outcome)
unfolding answered_at
answered_field results.NotFound bytes fits = record {
  at = λ x e.
      let b = bind_ok (u64_at bytes) (λ number. cond (eqb number.0 0) (Ok number) (Err faults.Field)) x e in
      let t = (u64_field bytes fits).at b.0 b.1 in
      let g = guard_holds (eqb b.0.0 0) faults.Field (Ok b.0) x b.2 in
      subst (λ (y : ℕ × List ℕ). Takes bytes (u64 y.0) y.1 × IsAnswered results.NotFound y.0) (ok_is {E = BadFrame} b.0 x g.1) (t.0, (t.1, eqb-true b.0.0 0 g.0));
}
answered_field results.Ok bytes fits = record { at = λ x e. let t = (u64_field bytes fits).at x e in (t.0, (t.1, tt)) }
answered_field results.Exists bytes fits = record { at = λ x e. let t = (u64_field bytes fits).at x e in (t.0, (t.1, tt)) }
answered_field results.LowNumber bytes fits = record { at = λ x e. let t = (u64_field bytes fits).at x e in (t.0, (t.1, tt)) }

pub answered_again : (outcome : LeaseResult) (n : ℕ) (rest : List ℕ) → IsU64 n → NumberFits outcome n → answered_at outcome (u64 n ++ rest) ≡ Ok (n, rest)
unfolding answered_at
answered_again results.NotFound n rest h none = rw (u64_again n rest h, eq-eqb n 0 none) refl
answered_again results.Ok n rest h none = u64_again n rest h
answered_again results.Exists n rest h none = u64_again n rest h
answered_again results.LowNumber n rest h none = u64_again n rest h

-- ---- operations

as_field_ok : (seq : ℕ) (r : Result (Operation × List ℕ) BadOp) (x : Operation × List ℕ) → as_field seq r ≡ Ok x → (r ≡ Ok x) × (x.0.seq ≡ seq)
as_field_ok seq (Ok y) x e =
    let g = guard_holds (eqb y.0.seq seq) faults.Field (Ok y) x e in
    let same : y ≡ x = ok_is {E = BadFrame} y x g.1 in
    (ap (λ (z : Operation × List ℕ). Ok z) same, subst (λ (z : Operation × List ℕ). z.0.seq ≡ seq) same (eqb-true y.0.seq seq g.0))
as_field_ok seq (Err op_faults.Short) x e = absurd cc
as_field_ok seq (Err op_faults.Kind) x e = absurd cc
as_field_ok seq (Err op_faults.Length) x e = absurd cc
as_field_ok seq (Err op_faults.Utf8) x e = absurd cc
as_field_ok seq (Err op_faults.Memory) x e = absurd cc

pub op_field : (seq : ℕ) (bytes : List ℕ) → IsBytes bytes → IsField bytes (op_at seq bytes) op_spelling (λ op. OpHasSpelling op × (op.seq ≡ seq))
unfolding op_at
op_field seq bytes fits = record {
  at = λ x e.
      let h = as_field_ok seq (operation_at bytes) x e in
      let t = operation_takes bytes x fits h.0 in
      (t.0, (t.1, h.1));
}

pub op_again : (seq : ℕ) (op : Operation) (rest : List ℕ) → OpHasSpelling op → op.seq ≡ seq → op_at seq (op_spelling op ++ rest) ≡ Ok (op, rest)
unfolding op_at
op_again seq op rest h e = rw (operation_again op rest h, eq-eqb op.seq seq e) refl

abbrev pub AreOps : ℕ → ℕ → List Operation → Type 0
AreOps from n ops = (length ops ≡ n) × IsRun from ops × AllByRecursion OpHasSpelling ops

ops_take : (from n : ℕ) (bytes : List ℕ) (x : List Operation × List ℕ) → IsBytes bytes → ops_at from n bytes ≡ Ok x → Takes bytes (flat_map op_spelling x.0) x.1 × AreOps from n x.0
unfolding ops_at
ops_take from zero bytes x fits e =
    subst (λ (y : List Operation × List ℕ). Takes bytes (flat_map op_spelling y.0) y.1 × AreOps from 0 y.0) (ok_is {E = BadFrame} ([], bytes) x e) (record { parts = refl; rest_fits = fits }, (refl, tt, tt))
ops_take from (suc n) bytes x fits e =
    let a = bind_ok (op_at from bytes) (λ first. ops_at (from + 1) n first.1 >>= λ others. Ok (first.0 ∷ others.0, others.1)) x e in
    let b = bind_ok (ops_at (from + 1) n a.0.1) (λ others. Ok (a.0.0 ∷ others.0, others.1)) x a.2 in
    let first = (op_field from bytes fits).at a.0 a.1 in
    let second = ops_take (from + 1) n a.0.1 b.0 first.0.rest_fits b.1 in
    let both = Takes-then bytes (op_spelling a.0.0) a.0.1 (flat_map op_spelling b.0.0) b.0.1 first.0 second.0 in
    let made : List Operation × List ℕ = (a.0.0 ∷ b.0.0, b.0.1) in
    subst (λ (y : List Operation × List ℕ). Takes bytes (flat_map op_spelling y.0) y.1 × AreOps from (suc n) y.0) (ok_is {E = BadFrame} made x b.2) (rw flat_map-cons both, (ap suc second.1.0, (first.1.1, second.1.1), (first.1.0, second.1.2)))

pub ops_field : (from n : ℕ) (bytes : List ℕ) → IsBytes bytes → IsField bytes (ops_at from n bytes) (λ ops. flat_map op_spelling ops) (AreOps from n)
ops_field from n bytes fits = record { at = λ x e. ops_take from n bytes x fits e }

pub ops_again : (from : ℕ) (ops : List Operation) (rest : List ℕ) → IsRun from ops → AllByRecursion OpHasSpelling ops → ops_at from (length ops) (flat_map op_spelling ops ++ rest) ≡ Ok (ops, rest)
unfolding ops_at
ops_again from [] rest run fits = refl
ops_again from (op ∷ ops) rest run fits =
    let regrouped : flat_map op_spelling (op ∷ ops) ++ rest ≡ op_spelling op ++ (flat_map op_spelling ops ++ rest) = ap (λ (x : List ℕ). x ++ rest) (flat_map-cons op_spelling op ops) ∙ append_assoc (op_spelling op) (flat_map op_spelling ops) rest in
    ap (ops_at from (suc (length ops))) regrouped ∙ rw (op_again from op (flat_map op_spelling ops ++ rest) fits.0 run.0, ops_again (from + 1) ops rest run.1 fits.1) refl

-- ---- sizes

abbrev pub AreSizes : ℕ → List ℕ → Type 0
AreSizes n sizes = (length sizes ≡ n) × AllByRecursion IsU64 sizes

sizes_take : (n : ℕ) (bytes : List ℕ) (x : List ℕ × List ℕ) → IsBytes bytes → sizes_at n bytes ≡ Ok x → Takes bytes (flat_map u64 x.0) x.1 × AreSizes n x.0
unfolding sizes_at
sizes_take zero bytes x fits e =
    subst (λ (y : List ℕ × List ℕ). Takes bytes (flat_map u64 y.0) y.1 × AreSizes 0 y.0) (ok_is {E = BadFrame} ([], bytes) x e) (record { parts = refl; rest_fits = fits }, (refl, tt))
sizes_take (suc n) bytes x fits e =
    let a = bind_ok (u64_at bytes) (λ first. sizes_at n first.1 >>= λ others. Ok (first.0 ∷ others.0, others.1)) x e in
    let b = bind_ok (sizes_at n a.0.1) (λ others. Ok (a.0.0 ∷ others.0, others.1)) x a.2 in
    let first = (u64_field bytes fits).at a.0 a.1 in
    let second = sizes_take n a.0.1 b.0 first.0.rest_fits b.1 in
    let both = Takes-then bytes (u64 a.0.0) a.0.1 (flat_map u64 b.0.0) b.0.1 first.0 second.0 in
    let made : List ℕ × List ℕ = (a.0.0 ∷ b.0.0, b.0.1) in
    subst (λ (y : List ℕ × List ℕ). Takes bytes (flat_map u64 y.0) y.1 × AreSizes (suc n) y.0) (ok_is {E = BadFrame} made x b.2) (subst (λ (part : List ℕ). Takes bytes part b.0.1) (sym (flat_map-cons u64 a.0.0 b.0.0)) both, (ap suc second.1.0, (first.1, second.1.1)))

pub sizes_field : (n : ℕ) (bytes : List ℕ) → IsBytes bytes → IsField bytes (sizes_at n bytes) (λ sizes. flat_map u64 sizes) (AreSizes n)
sizes_field n bytes fits = record { at = λ x e. sizes_take n bytes x fits e }

pub sizes_again : (sizes rest : List ℕ) → AllByRecursion IsU64 sizes → sizes_at (length sizes) (flat_map u64 sizes ++ rest) ≡ Ok (sizes, rest)
unfolding sizes_at
sizes_again [] rest fits = refl
sizes_again (n ∷ sizes) rest fits =
    let regrouped : flat_map u64 (n ∷ sizes) ++ rest ≡ u64 n ++ (flat_map u64 sizes ++ rest) = ap (λ (x : List ℕ). x ++ rest) (flat_map-cons u64 n sizes) ∙ append_assoc (u64 n) (flat_map u64 sizes) rest in
    ap (sizes_at (suc (length sizes))) regrouped ∙ rw (u64_again n (flat_map u64 sizes ++ rest) fits.0, sizes_again sizes rest fits.1) refl
