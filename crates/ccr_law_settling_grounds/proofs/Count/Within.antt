-- What the replies to reads among messages tell, and tasks that know of no more than a count, and so of no more than a greater one.
use Rattle.std.specs.List.{AllByRecursion}
use Rattle.std.proofs.Common.{ℕ, ◌≤◌, List, ◌++◌, arith}
use Rattle.ccr_wire.specs.Message.{Frame}
use Rattle.ccr_wire.specs.declared.content.Content.{Content}
use Rattle.ccr_wire.specs.declared.content.Content.TheVariants as contents
use Rattle.ccr_model.specs.Outcomes.{Outcome}
use Rattle.ccr_model.specs.Followers.{Work, restoring, replicating}
use Rattle.ccr_law_base.proofs.Lists.{All-weaker, All-append}
use Rattle.ccr_law_settling_grounds.specs.KnownCounts.{TellsSo, IsWorkWithin}

-- what holds of each message that an outcome sends
abbrev pub Sends : {S : Type 0} → (Frame → Type 0) → Outcome S → Type 0
Sends P o = AllByRecursion P o.sent

-- where the message is a reply to a read, it tells its follower a count that it may
abbrev pub Tells : (List ℕ → ℕ → Type 0) → Frame → Type 0
Tells told m = TellsSo (told m.follower) m.content

-- the message is no reply to a read
abbrev pub IsSilent : Frame → Type 0
IsSilent m = TellsSo (λ global. ⊥) m.content

abbrev pub AreSilent : List Frame → Type 0
AreSilent sent = AllByRecursion IsSilent sent

pub tells_more : (A B : ℕ → Type 0) (content : Content) → ((global : ℕ) → A global → B global) → TellsSo A content → TellsSo B content
tells_more A B (contents.ReadReply from global ops) more is = more global is
tells_more A B _ more is = tt

pub tells_all : (A : ℕ → Type 0) (content : Content) → ((global : ℕ) → A global) → TellsSo A content
tells_all A (contents.ReadReply from global ops) all = all global
tells_all A _ all = tt

pub tells_both : (A B C : ℕ → Type 0) (Q : Type 0) (content : Content) → ((global : ℕ) → A global → (Q → B global) → C global) → TellsSo A content → (Q → TellsSo B content)
    → TellsSo C content
tells_both A B C Q (contents.ReadReply from global ops) joins a b = joins global a b
tells_both A B C Q _ joins a b = tt

pub silent_tell : (told : List ℕ → ℕ → Type 0) (sent : List Frame) → AreSilent sent → AllByRecursion (Tells told) sent
silent_tell told sent silent = All-weaker IsSilent (Tells told) (λ m is. tells_more (λ global. ⊥) (told m.follower) m.content (λ global none. absurd none) is) sent silent

pub joined_silent : (xs ys : List Frame) → AreSilent xs → AreSilent ys → AreSilent (xs ++ ys)
joined_silent xs ys first second = All-append IsSilent xs ys first second

-- ---- a greater count

pub work_later : (cut later : ℕ) (work : Work) → cut ≤ later → IsWorkWithin cut work → IsWorkWithin later work
work_later cut later (restoring r) rises is = tt
work_later cut later (replicating t) rises is =
    let known : t.known ≤ cut = is.known in
    let next : t.next ≤ cut = is.next in
    record { known = omega arith; next = omega arith }
