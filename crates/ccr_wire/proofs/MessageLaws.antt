-- A message that is read is spelled so, and what is spelled so is read.
use Rattle.std.proofs.Common.{◌≡◌, ℕ, cond, eqb, List, [], ◌∷◌, ◌++◌, length, Result, Ok, Err, refl, sym, ap, subst, ◌∙◌, append_assoc, arith}
use Rattle.std.specs.Prelude.{IfOk}
use Rattle.std.specs.List.{flat_map}
use Rattle.std.specs.Int.{w16, w32}
use Rattle.std.proofs.lemmas.Bool.{eqb-true}
use Rattle.std.proofs.lemmas.List.{append-nil, nil_from_length}
use Rattle.ccr_op.specs.Fields.{◌>>=◌, counted}
use Rattle.ccr_op.specs.Spelling.{spelling as op_spelling}
use Rattle.ccr_op.proofs.FieldLaws.{IsBytes, Takes, Reads, reads_then, reads_ok, guard_holds, bind_ok, ok_is}
use Rattle.ccr_wire.specs.declared.bad_frame.BadFrame.{BadFrame}
use Rattle.ccr_wire.specs.declared.bad_frame.BadFrame.TheVariants as faults
use Rattle.ccr_wire.specs.declared.kind.FrameKind.{FrameKind}
use Rattle.ccr_wire.specs.declared.kind.FrameKind.TheVariants as kinds
use Rattle.ccr_wire.specs.declared.kind.LeaseResult.{LeaseResult}
use Rattle.ccr_wire.specs.declared.content.Content.{Content}
use Rattle.ccr_wire.specs.declared.content.Content.TheVariants.{ReadRequest, ReadReply, ReadMissing, ReadHistory, LeaseAdd, LeaseAdded, LeaseRenew, LeaseRemove, LeaseAnswer, SessionOpen, SessionOpened, ChunkRequest, ChunkReply, SessionGone, NotReady}
use Rattle.ccr_wire.specs.Kinds.{byte_of, result_byte}
use Rattle.ccr_wire.specs.Message.{Frame, kind_of_content, ContentFits, FieldsFit, HasSpelling}
use Rattle.ccr_wire.specs.Spelling.{u32, u64, fields_of, spelling}
use Rattle.ccr_wire.specs.Reading.{Gives, content_at, message_at, message_of, kind_at, result_at}
use Rattle.ccr_wire.proofs.WireFields.{u32_field, u64_field, uuid_field, id_field, size_field, chunk_field, kind_field, result_field, answered_field, ops_field, sizes_field, u32_again, u64_again, uuid_again, id_again, size_again, chunk_again, kind_again, result_again, answered_again, ops_again, sizes_again}

-- the content of a frame of a kind, and what follows the request in it
pub record IsContent (kind : FrameKind) (content : Content) (part : List ℕ) : Type 0 where
  pub is : kind_of_content content ≡ kind
  pub spelled : part ≡ fields_of content
  pub fields : FieldsFit content
  pub within : ContentFits content

pub content_reads : (kind : FrameKind) (bytes : List ℕ) → IsBytes bytes → Reads bytes (content_at kind bytes) (IsContent kind)
unfolding content_at
content_reads kinds.ReadRequest bytes fits =
    reads_then _ (uuid_field bytes fits) (λ history b1 f1 h1.
    reads_then _ (u64_field b1 f1) (λ from b2 f2 h2.
    reads_then _ (u64_field b2 f2) (λ max_ops b3 f3 h3.
    reads_then _ (u64_field b3 f3) (λ max_bytes b4 f4 h4.
    reads_then _ (u64_field b4 f4) (λ timeout b5 f5 h5.
    reads_ok f5 (record { is = refl; spelled = refl; fields = (h1, h2, h3, h4, h5); within = tt }))))))
content_reads kinds.ReadReply bytes fits =
    reads_then _ (u64_field bytes fits) (λ from b1 f1 h1.
    reads_then _ (u64_field b1 f1) (λ global b2 f2 h2.
    reads_then _ (u32_field b2 f2) (λ number b3 f3 h3.
    reads_then _ (ops_field from number b3 f3) (λ ops b4 f4 h4.
    reads_ok f4 (record { is = refl; spelled = rw append-nil (ap (λ (n : ℕ). u64 from ++ (u64 global ++ (u32 n ++ flat_map op_spelling ops))) (sym h4.0)); fields = (h1, h2, h4.2); within = (omega (arith, h3, h4.0), h4.1) })))))
content_reads kinds.ReadMissing bytes fits =
    reads_then _ (u64_field bytes fits) (λ from b1 f1 h1.
    reads_then _ (u64_field b1 f1) (λ floor b2 f2 h2.
    reads_ok f2 (record { is = refl; spelled = refl; fields = (h1, h2); within = tt })))
content_reads kinds.ReadHistory bytes fits =
    reads_then _ (uuid_field bytes fits) (λ history b1 f1 h1.
    reads_ok f1 (record { is = refl; spelled = rw append-nil refl; fields = h1; within = tt }))
content_reads kinds.LeaseAdd bytes fits =
    reads_then _ (id_field bytes fits) (λ id b1 f1 h1.
    reads_ok f1 (record { is = refl; spelled = rw append-nil refl; fields = h1; within = tt }))
content_reads kinds.LeaseAdded bytes fits =
    reads_then _ (u64_field bytes fits) (λ number b1 f1 h1.
    reads_ok f1 (record { is = refl; spelled = refl; fields = h1; within = tt }))
content_reads kinds.LeaseRenew bytes fits =
    reads_then _ (id_field bytes fits) (λ id b1 f1 h1.
    reads_then _ (u64_field b1 f1) (λ number b2 f2 h2.
    reads_ok f2 (record { is = refl; spelled = refl; fields = (h1, h2); within = tt })))
content_reads kinds.LeaseRemove bytes fits =
    reads_then _ (id_field bytes fits) (λ id b1 f1 h1.
    reads_ok f1 (record { is = refl; spelled = rw append-nil refl; fields = h1; within = tt }))
content_reads kinds.LeaseAnswer bytes fits =
    reads_then _ (result_field bytes fits) (λ outcome b1 f1 h1.
    reads_then _ (answered_field outcome b1 f1) (λ number b2 f2 h2.
    reads_ok f2 (record { is = refl; spelled = refl; fields = h2.0; within = h2.1 })))
content_reads kinds.SessionOpen bytes fits =
    reads_ok fits (record { is = refl; spelled = refl; fields = tt; within = tt })
content_reads kinds.SessionOpened bytes fits =
    reads_then _ (u64_field bytes fits) (λ session b1 f1 h1.
    reads_then _ (uuid_field b1 f1) (λ history b2 f2 h2.
    reads_then _ (u64_field b2 f2) (λ count b3 f3 h3.
    reads_then _ (u32_field b3 f3) (λ files b4 f4 h4.
    reads_then _ (sizes_field files b4 f4) (λ sizes b5 f5 h5.
    reads_ok f5 (record { is = refl; spelled = rw append-nil (ap (λ (n : ℕ). u64 session ++ (history ++ (u64 count ++ (u32 n ++ flat_map u64 sizes)))) (sym h5.0)); fields = (h1, h2, h3, h5.1); within = omega (arith, h4, h5.0) }))))))
content_reads kinds.ChunkRequest bytes fits =
    reads_then _ (u64_field bytes fits) (λ session b1 f1 h1.
    reads_then _ (u32_field b1 f1) (λ file b2 f2 h2.
    reads_then _ (u64_field b2 f2) (λ offset b3 f3 h3.
    reads_then _ (size_field b3 f3) (λ size b4 f4 h4.
    reads_ok f4 (record { is = refl; spelled = refl; fields = (h1, h2, h3); within = h4 })))))
content_reads kinds.ChunkReply bytes fits =
    reads_then _ (u64_field bytes fits) (λ session b1 f1 h1.
    reads_then _ (u32_field b1 f1) (λ file b2 f2 h2.
    reads_then _ (u64_field b2 f2) (λ offset b3 f3 h3.
    reads_then _ (chunk_field b3 f3) (λ part b4 f4 h4.
    reads_ok f4 (record { is = refl; spelled = rw append-nil refl; fields = (h1, h2, h3); within = h4 })))))
content_reads kinds.SessionGone bytes fits =
    reads_then _ (u64_field bytes fits) (λ session b1 f1 h1.
    reads_ok f1 (record { is = refl; spelled = refl; fields = h1; within = tt }))
content_reads kinds.NotReady bytes fits =
    reads_then _ (u32_field bytes fits) (λ copy b1 f1 h1.
    reads_ok f1 (record { is = refl; spelled = refl; fields = h1; within = tt }))

-- the last step of a reading, whose value is made of what came before
reads_last : {E A C : Type 0} {bytes : List ℕ} {r : Result (A × List ℕ) E} (mk : A → C) {Ra : A → List ℕ → Type 0} {R : C → List ℕ → Type 0}
    → Reads bytes r Ra → ((a : A) (part : List ℕ) → Ra a part → R (mk a) part) → Reads bytes (r >>= λ x. Ok (mk x.0, x.1)) R
reads_last {E = E} {A = A} {C = C} {bytes = bytes} {r = r} mk {R = R} read holds = record {
  at = λ y e.
      let b = bind_ok r (λ x. Ok (mk x.0, x.1)) y e in
      let one = read.at b.0 b.1 in
      let same : (mk b.0.0, b.0.1) ≡ y = ok_is {E = E} (mk b.0.0, b.0.1) y b.2 in
      subst (λ (z : C × List ℕ). (part : List ℕ) × Takes bytes part z.1 × R z.0 part) same (one.0, one.1, holds b.0.0 one.0 one.2);
}

pub record IsMessage (m : Frame) (part : List ℕ) : Type 0 where
  pub spelled : part ≡ spelling m
  pub fits : HasSpelling m

message_reads : (bytes : List ℕ) → IsBytes bytes → Reads bytes (message_at bytes) IsMessage
unfolding message_at
message_reads bytes fits =
    reads_then _ (kind_field bytes fits) (λ kind b1 f1 h1.
    reads_then _ (uuid_field b1 f1) (λ follower b2 f2 h2.
    reads_then _ (u64_field b2 f2) (λ request b3 f3 h3.
    reads_last (λ content. record { follower = follower; request = request; content = content }) (content_reads kind b3 f3) (λ content part h. record {
      spelled = ap (λ (k : FrameKind). byte_of k ∷ (follower ++ (u64 request ++ part))) (sym h.is) ∙ ap (λ (p : List ℕ). byte_of (kind_of_content content) ∷ (follower ++ (u64 request ++ p))) h.spelled;
      fits = record { follower = h2; request = h3; fields = h.fields; content = h.within };
    }))))

-- what is read is spelled so
pub message_takes : (bytes : List ℕ) (m : Frame) → IsBytes bytes → message_of bytes ≡ Ok m → HasSpelling m × (bytes ≡ spelling m)
unfolding message_of
message_takes bytes m fits e =
    let b = bind_ok (message_at bytes) (λ x. cond (eqb (length x.1) 0) (Ok x.0) (Err faults.Trailing)) m e in
    let g = guard_holds (eqb (length b.0.1) 0) faults.Trailing (Ok b.0.0) m b.2 in
    let read = (message_reads bytes fits).at b.0 b.1 in
    let nothing : b.0.1 ≡ [] = nil_from_length b.0.1 (eqb-true _ _ g.0) in
    let whole : bytes ≡ spelling b.0.0 = read.1.parts ∙ ap (λ (r : List ℕ). read.0 ++ r) nothing ∙ append-nil read.0 ∙ read.2.spelled in
    subst (λ (v : Frame). HasSpelling v × (bytes ≡ spelling v)) (ok_is {E = BadFrame} b.0.0 m g.1) (read.2.fits, whole)

-- the byte of a kind, and of a result, is read again
kind_read : (kind : FrameKind) (rest : List ℕ) → kind_at (byte_of kind ∷ rest) ≡ Ok (kind, rest)
unfolding kind_at
kind_read kind rest = rw (kind_again kind) refl

result_read : (outcome : LeaseResult) (rest : List ℕ) → result_at (result_byte outcome ∷ rest) ≡ Ok (outcome, rest)
unfolding result_at
result_read outcome rest = rw (result_again outcome) refl

pub content_again : (content : Content) (rest : List ℕ) → FieldsFit content → ContentFits content → content_at (kind_of_content content) (fields_of content ++ rest) ≡ Ok (content, rest)
unfolding content_at
content_again (ReadRequest history from max_ops max_bytes timeout) rest h within =
    let t4 = u64 timeout ++ rest in
    let t3 = u64 max_bytes ++ t4 in
    let t2 = u64 max_ops ++ t3 in
    let t1 = u64 from ++ t2 in
    ap (content_at kinds.ReadRequest) (append_assoc history (u64 from ++ (u64 max_ops ++ (u64 max_bytes ++ u64 timeout))) rest)
    ∙ rw (uuid_again history t1 h.0, u64_again from t2 h.1, u64_again max_ops t3 h.2, u64_again max_bytes t4 h.3, u64_again timeout rest h.4) refl
content_again (ReadReply from global ops) rest h within =
    let t3 = flat_map op_spelling ops ++ rest in
    let t2 = u32 (length ops) ++ t3 in
    let t1 = u64 global ++ t2 in
    rw (u64_again from t1 h.0, u64_again global t2 h.1, u32_again (length ops) t3 within.0, ops_again from ops rest within.1 h.2) refl
content_again (ReadMissing from floor) rest h within =
    let t1 = u64 floor ++ rest in
    rw (u64_again from t1 h.0, u64_again floor rest h.1) refl
content_again (ReadHistory history) rest h within = rw (uuid_again history rest h) refl
content_again (LeaseAdd id) rest h within = rw (id_again id rest h) refl
content_again (LeaseAdded number) rest h within = rw (u64_again number rest h) refl
content_again (LeaseRenew id number) rest h within =
    let t1 = u64 number ++ rest in
    ap (content_at kinds.LeaseRenew) (append_assoc (counted w16 id) (u64 number) rest)
    ∙ rw (id_again id t1 h.0, u64_again number rest h.1) refl
content_again (LeaseRemove id) rest h within = rw (id_again id rest h) refl
content_again (LeaseAnswer outcome number) rest h within =
    let answer : result_at (result_byte outcome ∷ (u64 number ++ rest)) ≡ Ok (outcome, u64 number ++ rest) = result_read outcome (u64 number ++ rest) in
    rw (answer, answered_again outcome number rest h within) refl
content_again SessionOpen rest h within = refl
content_again (SessionOpened session history count sizes) rest h within =
    let t4 = flat_map u64 sizes ++ rest in
    let t3 = u32 (length sizes) ++ t4 in
    let t2 = u64 count ++ t3 in
    let t1 = history ++ t2 in
    ap (λ (x : List ℕ). content_at kinds.SessionOpened (u64 session ++ x)) (append_assoc history (u64 count ++ (u32 (length sizes) ++ flat_map u64 sizes)) rest)
    ∙ rw (u64_again session t1 h.0, uuid_again history t2 h.1, u64_again count t3 h.2, u32_again (length sizes) t4 within, sizes_again sizes rest h.3) refl
content_again (ChunkRequest session file offset size) rest h within =
    let t3 = u32 size ++ rest in
    let t2 = u64 offset ++ t3 in
    let t1 = u32 file ++ t2 in
    rw (u64_again session t1 h.0, u32_again file t2 h.1, u64_again offset t3 h.2, size_again size rest within) refl
content_again (ChunkReply session file offset bytes) rest h within =
    let t3 = counted w32 bytes ++ rest in
    let t2 = u64 offset ++ t3 in
    let t1 = u32 file ++ t2 in
    rw (u64_again session t1 h.0, u32_again file t2 h.1, u64_again offset t3 h.2, chunk_again bytes rest within) refl
content_again (SessionGone session) rest h within = rw (u64_again session rest h) refl
content_again (NotReady copy) rest h within = rw (u32_again copy rest h) refl

pub message_again : (m : Frame) (rest : List ℕ) → HasSpelling m → message_at (spelling m ++ rest) ≡ Ok (m, rest)
unfolding message_at
message_again m rest h =
    let t2 = fields_of m.content ++ rest in
    let t1 = u64 m.request ++ t2 in
    ap (λ (x : List ℕ). message_at (byte_of (kind_of_content m.content) ∷ x)) (append_assoc m.follower (u64 m.request ++ fields_of m.content) rest)
    ∙ rw (kind_read (kind_of_content m.content) (m.follower ++ t1), uuid_again m.follower t1 h.follower, u64_again m.request t2 h.request, content_again m.content rest h.fields h.content) refl

-- what is spelled so is read
pub all_again : (m : Frame) → HasSpelling m → message_of (spelling m) ≡ Ok m
unfolding message_of
all_again m h =
    let read : message_at (spelling m) ≡ Ok (m, []) = ap message_at (sym (append-nil (spelling m))) ∙ message_again m [] h in
    rw read refl

-- no spelling begins another
pub spelling_alone : (a b : Frame) (rest : List ℕ) → HasSpelling a → HasSpelling b → spelling b ≡ spelling a ++ rest → (a ≡ b) × (rest ≡ [])
spelling_alone a b rest ha hb e =
    let one : message_at (spelling b) ≡ Ok (a, rest) = ap message_at e ∙ message_again a rest ha in
    let two : message_at (spelling b) ≡ Ok (b, []) = ap message_at (sym (append-nil (spelling b))) ∙ message_again b [] hb in
    let three : (a, rest) ≡ (b, []) = ok_is {E = BadFrame} (a, rest) (b, []) (sym one ∙ two) in
    (ap (λ (x : Frame × List ℕ). x.0) three, ap (λ (x : Frame × List ℕ). x.1) three)

pub is_found : (bytes : List ℕ) (r : Result Frame BadFrame) → IsBytes bytes → Gives (λ m. m) r (message_of bytes) → IfOk r (λ m. HasSpelling m × (bytes ≡ spelling m))
is_found bytes (Ok m) fits given = message_takes bytes m fits given
is_found bytes (Err e) fits given = tt

pub content_fits : {X : Type 0} (view : X → Content × List ℕ) (kind : FrameKind) (bytes : List ℕ) (r : Result X BadFrame) → IsBytes bytes → Gives view r (content_at kind bytes) → IfOk r (λ x. ContentFits (view x).0)
content_fits view kind bytes (Ok x) fits given = ((content_reads kind bytes fits).at (view x) given).2.within
content_fits view kind bytes (Err e) fits given = tt
