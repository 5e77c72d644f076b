-- What the events on the copies come to for the follower, by what its engine told.
use Rattle.std.proofs.Common.{◌≡◌, ℕ, Bool, true, false, List, [], refl, sym, ◌∙◌, ap}
use Rattle.ccr_wire.specs.Message.{Frame}
use Rattle.ccr_journal.specs.declared.replies.Reply.{Reply}
use Rattle.ccr_journal.specs.declared.replies.Refusal.{Refusal}
use Rattle.ccr_journal.specs.declared.replies.Refusal.TheVariants.{Bootstrapping}
use Rattle.ccr_model.specs.Outcomes.{Outcome, refused, answered, guarded, within}
use Rattle.ccr_model.specs.Requests.{Sending}
use Rattle.ccr_model.specs.Copies.{Copies}
use Rattle.ccr_model.specs.CopyRows.{add_copy_row}
use Rattle.ccr_model.specs.Followers.{Follower, Work}
use Rattle.ccr_model.specs.FollowerRows.{with_copies, is_bootstrapping, follower_add_copy_row}
use Rattle.ccr_follower.specs.Engine.{Engine, with_copies as with_engine_copies}
use Rattle.ccr_follower.specs.Faults.{IsRefusal, refusal_of}
use Rattle.ccr_follower.specs.declared.follower_fault.FollowerFault.{FollowerFault}
use Rattle.ccr_following.proofs.Stepping.{engine_of, with_engine}

pub copies-done : (s : Follower) (o : Outcome Copies) (reply : Reply) (next : Engine) (told : Outcome Follower)
    → within (with_engine_copies (engine_of s)) o ≡ answered reply next → answered reply (with_engine s next) ≡ told → within (with_copies s) o ≡ told
copies-done s o reply next told is comes = ap (λ (x : Outcome Engine). within (with_engine s) x) is ∙ comes

pub copies-refused : (s : Follower) (o : Outcome Copies) (fault : FollowerFault) (next : Engine) (told : Outcome Follower) → IsRefusal fault
    → (IsRefusal fault → within (with_engine_copies (engine_of s)) o ≡ refused next (refusal_of fault)) → refused (with_engine s next) (refusal_of fault) ≡ told
    → within (with_copies s) o ≡ told
copies-refused s o fault next told is refuses comes = ap (λ (x : Outcome Engine). within (with_engine s) x) (refuses is) ∙ comes

pub add-copy-done : (s : Follower) (told : Outcome Follower) → is_bootstrapping s.work ≡ false → within (with_copies s) (add_copy_row s.copies) ≡ told → follower_add_copy_row s ≡ told
unfolding follower_add_copy_row guarded
add-copy-done s told over comes = rw over comes

pub add-copy-refused : (s : Follower) (told : Outcome Follower) → is_bootstrapping s.work ≡ true → refused s Bootstrapping ≡ told → follower_add_copy_row s ≡ told
unfolding follower_add_copy_row guarded
add-copy-refused s told still comes = rw still comes
