-- commands that are done one after another, and the last two of them
use Rattle.std.proofs.Common.{◌≡◌, ◌∙◌, ◌⊎◌, ℕ, ◌-◌, ◌<◌, true, false, List, [], ◌∷◌, ◌++◌, length, take, arith, refl, ap, sym, subst, inl, inr, append_assoc, append-nil}
use Rattle.std.proofs.lemmas.List.{length-append}
use Rattle.std.specs.Prelude.{count_by}
use Rattle.ccr_journal.specs.declared.replies.Reply.{Reply}
use Rattle.ccr_script.specs.declared.commands.Command.{Command}
use Rattle.ccr_script.specs.declared.commands.Command.TheVariants as command
use Rattle.ccr_script.specs.Generated.{generated, setup, changes, leader, follower, search_of_all}
use Rattle.ccr_answers.specs.declared.forms.Answer.{Answer}
use Rattle.ccr_plans.specs.Scenes.{Scene, Begins, Does, is_settle, planned}
use Rattle.ccr_game.specs.Begun.{done_begun}
use Rattle.ccr_game.specs.Games.{DoesWith}
use Rattle.ccr_model.specs.SeveralShards.{JoinedAnswer}
use Rattle.ccr_run.specs.Samples.{AreBegun, AreDone, EndInSearches, EndsFinding, EndsInSearch, Finds, HasBegun, HasSummary, IsDone, SumsUp, found_by, is_change, is_delete, summary_text}

-- ---- the last two

abbrev last_of : Command → List Command → Command
last_of a [] = a
last_of a (c ∷ cs) = last_of c cs

last_of-append : (a : Command) (cs : List Command) (last : Command) → last_of a (cs ++ last ∷ []) ≡ last
last_of-append a [] last = refl
last_of-append a (c ∷ cs) last = last_of-append c cs last

same_last : (cs others : List Command) (last last' : Command) → cs ++ last ∷ [] ≡ others ++ last' ∷ [] → last ≡ last'
same_last cs others last last' e = sym (last_of-append last cs last) ∙ (ap (last_of last) e ∙ last_of-append last others last')

-- all but the last
abbrev front_of : Command → List Command → List Command
front_of a [] = []
front_of a (c ∷ cs) = a ∷ front_of c cs

abbrev front : List Command → List Command
front [] = []
front (c ∷ cs) = front_of c cs

front_of-append : (a : Command) (cs : List Command) (last : Command) → front_of a (cs ++ last ∷ []) ≡ a ∷ cs
front_of-append a [] last = refl
front_of-append a (c ∷ cs) last = ap (λ xs. a ∷ xs) (front_of-append c cs last)

front-append : (cs : List Command) (last : Command) → front (cs ++ last ∷ []) ≡ cs
front-append [] last = refl
front-append (c ∷ cs) last = front_of-append c cs last

same_front : (cs others : List Command) (last last' : Command) → cs ++ last ∷ [] ≡ others ++ last' ∷ [] → cs ≡ others
same_front cs others last last' e = sym (front-append cs last) ∙ (ap front e ∙ front-append others last')

none_taken : (whole left : List Command) (n : ℕ) → whole ≡ left ++ [] → left ≡ take (n - 1) whole → n ≡ 0 → whole ≡ []
none_taken whole left n e rest none =
    let empty : left ≡ [] = rest ∙ ap (λ m. take (m - 1) whole) none in
    e ∙ ap (λ cs. cs ++ []) empty

pub none_left : (whole left : List Command) (n : ℕ) → EndsInSearch whole → whole ≡ left ++ [] → left ≡ take (n - 1) whole → n ≡ 0 → ⊥
none_left whole left n h e rest none =
    let short : length whole ≡ 0 = ap (λ (cs : List Command). length cs) (none_taken whole left n e rest none) in
    let long = ap (λ (cs : List Command). length cs) h.split ∙ length-append h.first (h.search ∷ []) in
    omega (arith, long, short)

pub is_no_settle : (whole first : List Command) (search : Command) → EndsInSearch whole → whole ≡ first ++ search ∷ [] → is_settle search ≡ false
is_no_settle whole first search h e = ap is_settle (same_last first h.first search h.search (sym e ∙ h.split)) ∙ h.asked

-- what two searches end ends in one, and so it does behind the last
pub ends_in_search : (whole : List Command) → EndInSearches whole → EndsInSearch whole
ends_in_search whole h = record {
  first = h.first ++ h.search ∷ [];
  search = h.last;
  split = h.split ∙ sym (append_assoc h.first (h.search ∷ []) (h.last ∷ []));
  asked = h.asked_last;
}

pub then_in_search : (whole one : List Command) (last : Command) → EndInSearches whole → whole ≡ one ++ last ∷ [] → EndsInSearch one
then_in_search whole one last h off = record {
  first = h.first;
  search = h.search;
  split = same_front one (h.first ++ h.search ∷ []) last h.last (sym off ∙ (h.split ∙ sym (append_assoc h.first (h.search ∷ []) (h.last ∷ []))));
  asked = h.asked;
}

-- a generated script ends with two searches
generated_ends : (seed writes : ℕ) → EndInSearches (generated seed writes)
generated_ends seed writes = record {
  first = setup ++ (changes writes writes 0 seed ++ command.Settle ∷ []);
  search = search_of_all leader;
  last = search_of_all follower;
  split =
      sym (append_assoc setup (changes writes writes 0 seed ++ command.Settle ∷ []) (search_of_all leader ∷ search_of_all follower ∷ [])
      ∙ ap (λ cs. setup ++ cs) (append_assoc (changes writes writes 0 seed) (command.Settle ∷ []) (search_of_all leader ∷ search_of_all follower ∷ [])));
  asked = refl;
  asked_last = refl;
}

pub ends_in : (whole : List Command) (seed writes : ℕ) → whole ≡ generated seed writes → EndInSearches whole
ends_in whole seed writes e = subst EndInSearches (sym e) (generated_ends seed writes)

-- ---- one command

pub settle_is : (c : Command) → is_settle c ≡ true → c ≡ command.Settle
settle_is command.Settle e = refl
settle_is _ e = absurd (cc)

-- a command that was done is answered in some form
pub done_with : (before : Scene) (c : Command) (after : Scene) (text : List ℕ) → Does before c after text → IsDone before c after
done_with before c after text d = ((planned before c).answer, d.told, record { done = d.done; names = d.names; is = refl })

pub settled_done : (before : Scene) (c : Command) (after : Scene) → is_settle c ≡ true → IsDone before command.Settle after → IsDone before c after
settled_done before c after is d = subst (λ x. IsDone before x after) (sym (settle_is c is)) d

pub settled_begun : (before : Scene) (c : Command) (after : Scene) → is_settle c ≡ true → Begins before command.Settle after → Begins before c after
settled_begun before c after is b = subst (λ x. Begins before x after) (sym (settle_is c is)) b

pub told_done : (before : Scene) (c : Command) (after : Scene) (form : Answer) (told : List Reply) → DoesWith before c after form told → IsDone before c after
told_done before c after form told d = (form, told, d)

pub ruleset doing = (settled_done, settled_begun)

-- ---- one after another

pub AreDone-append : (cs others : List Command) (before mid after : Scene) → AreDone before cs mid → AreDone mid others after → AreDone before (cs ++ others) after
AreDone-append [] others before mid after d e = subst (λ s. AreDone s others after) d e
AreDone-append (c ∷ cs) others before mid after d e = (d.0, d.1, AreDone-append cs others d.0 mid after d.2 e)

-- where a command was done and the others were begun, all were
pub begun_next : (before mid after : Scene) (c : Command) (cs : List Command) → IsDone before c mid → AreBegun mid cs after → AreBegun before (c ∷ cs) after
begun_next before mid after c cs d b = record {
  first = c ∷ b.first;
  others = b.others;
  between = b.between;
  split = ap (λ xs. c ∷ xs) b.split;
  done = (mid, d, b.done);
  begun = b.begun;
}

pub begun_here : (before after : Scene) (c : Command) (cs : List Command) → Begins before c after → AreBegun before (c ∷ cs) after
begun_here before after c cs b = record { first = []; others = c ∷ cs; between = before; split = refl; done = refl; begun = inr b }

-- none of the commands was begun
pub begun_none : (before : Scene) (cs : List Command) → AreBegun before cs before
begun_none before cs = record { first = []; others = cs; between = before; split = refl; done = refl; begun = inl refl }

-- all of them were done
pub begun_all : (before after : Scene) (cs : List Command) → AreDone before cs after → AreBegun before cs after
begun_all before after cs d = record { first = cs; others = []; between = after; split = append-nil cs; done = d; begun = inl refl }

-- what was begun of the first commands was begun of all
pub begun_more : (before after : Scene) (cs others : List Command) → AreBegun before cs after → AreBegun before (cs ++ others) after
begun_more before after cs others b = record {
  first = b.first;
  others = b.others ++ others;
  between = b.between;
  split = sym (append_assoc b.first b.others others) ∙ ap (λ xs. xs ++ others) b.split;
  done = b.done;
  begun = has_more b.between b.others after b.begun;
} where
  has_more : (between : Scene) (rest : List Command) (after : Scene) → (after ≡ between) ⊎ HasBegun between rest after → (after ≡ between) ⊎ HasBegun between (rest ++ others) after
  has_more between [] after (inl e) = inl e
  has_more between [] after (inr b) = absurd b
  has_more between (c ∷ rest) after b = b

-- the first were done, and what was begun behind them is begun of all
pub begun_behind : (before mid after : Scene) (cs others : List Command) → AreDone before cs mid → AreBegun mid others after → AreBegun before (cs ++ others) after
begun_behind before mid after cs others d b = record {
  first = cs ++ b.first;
  others = b.others;
  between = b.between;
  split = append_assoc cs b.first b.others ∙ ap (λ xs. cs ++ xs) b.split;
  done = AreDone-append cs b.first before mid b.between d b.done;
  begun = b.begun;
}

-- ---- a search

pub finds : (before after : Scene) (c : Command) (form : Answer) (told : List Reply) (it : JoinedAnswer) → DoesWith before c after form told → it ≡ found_by form told → Finds before c after it
finds before after c form told it d is = record { form = form; told = told; done = d; is = is }

pub with_begun : (before after : Scene) (c : Command) (form : Answer) (told : List Reply) → DoesWith before c after form told → Begins before c after
with_begun before after c form told d = done_begun before after c told d.done

pub found_begun : (before after : Scene) (c : Command) (it : JoinedAnswer) → Finds before c after it → Begins before c after
found_begun before after c it f = with_begun before after c f.form f.told f.done

-- ---- all that is done, and how far it came

-- the first commands were begun
pub at_first : (before after : Scene) (whole first : List Command) (last : Command) → whole ≡ first ++ last ∷ [] → AreBegun before first after → AreBegun before whole after
at_first before after whole first last e b = subst (λ cs. AreBegun before cs after) (sym e) (begun_more before after first (last ∷ []) b)

-- the first were done, and the last was begun
pub at_last : (before mid after : Scene) (whole first : List Command) (last : Command) → whole ≡ first ++ last ∷ [] → AreDone before first mid → Begins mid last after
    → AreBegun before whole after
at_last before mid after whole first last e d b =
    subst (λ cs. AreBegun before cs after) (sym e) (begun_behind before mid after first (last ∷ []) d (begun_here mid after last [] b))

-- the same, where the last of the first found something
pub at_last_found : (before mid after : Scene) (whole first : List Command) (last : Command) (it : JoinedAnswer) → whole ≡ first ++ last ∷ [] → EndsFinding before first mid it
    → Begins mid last after → AreBegun before whole after
at_last_found before mid after whole first last it e f b =
    at_last before mid after whole first last e
    (subst (λ cs. AreDone before cs mid) (sym f.split)
    (AreDone-append f.first (f.search ∷ []) before f.at_end mid f.done (mid, (f.found.form, f.found.told, f.found.done), refl)))
    b

pub ends_finding : (before mid after : Scene) (whole first : List Command) (last : Command) (it : JoinedAnswer) → whole ≡ first ++ last ∷ [] → AreDone before first mid
    → Finds mid last after it → EndsFinding before whole after it
ends_finding before mid after whole first last it e d f = record { first = first; search = last; split = e; at_end = mid; done = d; found = f }

pub sums_up : (changes deletes : ℕ) (leader : JoinedAnswer) (before after : Scene) (c : Command) (it : JoinedAnswer) (text : List ℕ) → Finds before c after it
    → text ≡ summary_text changes deletes leader it → SumsUp changes deletes leader before c after text
sums_up changes deletes leader before after c it text f is = record { follower = it; found = f; is = is }

pub has_summary : (before between after : Scene) (commands first : List Command) (last : Command) (changes deletes : ℕ) (it : JoinedAnswer) (text : List ℕ)
    → commands ≡ first ++ last ∷ [] → EndsFinding before first between it → changes ≡ count_by is_change commands → deletes ≡ count_by is_delete commands
    → SumsUp changes deletes it between last after text → HasSummary commands before after text
has_summary before between after commands first last changes deletes it text e f counted counted' s = record {
  first = first;
  last = last;
  split = e;
  between = between;
  leader = it;
  at_leader = f;
  summed = subst (λ n. SumsUp n (count_by is_delete commands) it between last after text) counted
      (subst (λ n. SumsUp changes n it between last after text) counted' s);
}

-- of a script, told by what it is
pub begun_of : (before after : Scene) (whole commands : List Command) → whole ≡ commands → AreBegun before whole after → AreBegun before commands after
begun_of before after whole commands same b = subst (λ cs. AreBegun before cs after) same b

pub summary_of : (before after : Scene) (whole commands : List Command) (text : List ℕ) → whole ≡ commands → HasSummary whole before after text → HasSummary commands before after text
summary_of before after whole commands text same h = subst (λ cs. HasSummary cs before after text) same h

-- ---- a loop over commands

-- what is done and begun of the commands that are left, from now on, is done and begun of all
pub record Continues (before : Scene) (whole : List Command) (now : Scene) (rest : List Command) : Type 0 where
  pub done : (after : Scene) → AreDone now rest after → AreDone before whole after
  pub begun : (after : Scene) → AreBegun now rest after → AreBegun before whole after

pub continues_first : (before : Scene) (whole rest : List Command) → rest ≡ whole → Continues before whole before rest
continues_first before whole rest e = record {
  done = λ after d. subst (λ cs. AreDone before cs after) e d;
  begun = λ after b. subst (λ cs. AreBegun before cs after) e b;
}

pub continues_next : (before : Scene) (whole : List Command) (now mid : Scene) (c : Command) (rest others : List Command) → Continues before whole now rest → rest ≡ c ∷ others
    → IsDone now c mid → Continues before whole mid others
continues_next before whole now mid c rest others k e d = record {
  done = λ after more. k.done after (subst (λ cs. AreDone now cs after) (sym e) (mid, d, more));
  begun = λ after b. k.begun after (subst (λ cs. AreBegun now cs after) (sym e) (begun_next now mid after c others d b));
}

pub continues_to_end : (before : Scene) (whole : List Command) (now : Scene) (rest : List Command) → Continues before whole now rest → rest ≡ [] → AreDone before whole now
continues_to_end before whole now rest k e = k.done now (subst (λ cs. AreDone now cs now) (sym e) refl)

pub continues_begun : (before : Scene) (whole : List Command) (now after : Scene) (c : Command) (rest others : List Command) → Continues before whole now rest → rest ≡ c ∷ others
    → Begins now c after → AreBegun before whole after
continues_begun before whole now after c rest others k e b = k.begun after (subst (λ cs. AreBegun now cs after) (sym e) (begun_here now after c others b))

pub ruleset going_on = (continues_first, continues_next, continues_to_end, continues_begun)
