-- What each call leaves is kept in order.
use Rattle.std.proofs.Common.{◌≡◌, ℕ, zero, suc, ◌+◌, ◌<◌, ◌≤◌, ◌==◌, ◌≢◌, Bool, true, false, max, List, [], ◌∷◌, ◌++◌, length, map, find, Option, None, Some, is_some, option_map, MatchOption, refl, sym, ◌∙◌, ap, subst, arith, All, length-append, add-one, if◌then◌else◌}
use Rattle.std.proofs.lemmas.List.{length-map}
use Rattle.std.specs.Option.{option_map_or}
use Rattle.ccr_insync.specs.declared.Member.{Member}
use Rattle.ccr_insync.specs.Members.{member_of, least_known, in_step, as_acked, as_resynced, as_term_begins, without, AscendWithin}
use Rattle.ccr_insync.specs.InSyncSet.{InSyncSet, has, first_copies, first_set, set_of_one, acked, left, promoted, resynced, is_behind, IsLeastBehind, IsKept}
use Rattle.ccr_insync.proofs.MemberLists.{within-map, within-without, within-push, mark-map, mark-without, mark-push, begins, length-without-le, known-resynced, least_known-le, find_passes, find_least, find_none}

same_kept : (term primary next now global : ℕ) (left members : List Member) → now ≡ global → left ≡ members
    → IsKept record { term = term; primary = primary; next = next; global = global; members = members }
    → IsKept record { term = term; primary = primary; next = next; global = now; members = left }
same_kept term primary next now global left members same is kept =
    subst (λ (ms : List Member). IsKept record { term = term; primary = primary; next = next; global = now; members = ms }) (sym is)
    (subst (λ (n : ℕ). IsKept record { term = term; primary = primary; next = next; global = n; members = members }) (sym same) kept)

pub kept_acked : (s : InSyncSet) (copy count : ℕ) → IsKept s → IsKept (acked s copy count)
kept_acked s copy count kept = record {
  ascend = within-map (as_acked copy count) same 0 s.next s.members kept.ascend;
  few = simp length-map kept.few;
  primary_resynced = mark-map (λ m. m.is_resynced) (as_acked copy count) same stays s.primary s.members kept.primary_resynced;
  primary_acked = mark-map (λ m. m.is_acked) (as_acked copy count) same gains s.primary s.members kept.primary_acked;
  counted = omega arith;
}
  where
    same : (m : Member) → (as_acked copy count m).copy ≡ m.copy
    same m = elim (m.copy == copy) as (λ b. (if b then record m { known = count; is_acked = true } else m).copy ≡ m.copy) [ true ↦ refl | false ↦ refl ]

    stays : (m : Member) → m.is_resynced ≡ true → (as_acked copy count m).is_resynced ≡ true
    stays m h = elim (m.copy == copy) as (λ b. (if b then record m { known = count; is_acked = true } else m).is_resynced ≡ true) [ true ↦ h | false ↦ h ]

    gains : (m : Member) → m.is_acked ≡ true → (as_acked copy count m).is_acked ≡ true
    gains m h = elim (m.copy == copy) as (λ b. (if b then record m { known = count; is_acked = true } else m).is_acked ≡ true) [ true ↦ refl | false ↦ h ]

pub kept_resynced : (s : InSyncSet) (copy : ℕ) → IsKept s → IsKept (resynced s copy)
kept_resynced s copy kept = record {
  ascend = within-map (as_resynced copy) same 0 s.next s.members kept.ascend;
  few = simp length-map kept.few;
  primary_resynced = mark-map (λ m. m.is_resynced) (as_resynced copy) same gains s.primary s.members kept.primary_resynced;
  primary_acked = mark-map (λ m. m.is_acked) (as_resynced copy) same stays s.primary s.members kept.primary_acked;
  counted = rw (known-resynced copy s.members) kept.counted;
}
  where
    same : (m : Member) → (as_resynced copy m).copy ≡ m.copy
    same m = elim (m.copy == copy) as (λ b. (if b then record m { is_resynced = true } else m).copy ≡ m.copy) [ true ↦ refl | false ↦ refl ]

    gains : (m : Member) → m.is_resynced ≡ true → (as_resynced copy m).is_resynced ≡ true
    gains m h = elim (m.copy == copy) as (λ b. (if b then record m { is_resynced = true } else m).is_resynced ≡ true) [ true ↦ refl | false ↦ h ]

    stays : (m : Member) → m.is_acked ≡ true → (as_resynced copy m).is_acked ≡ true
    stays m h = elim (m.copy == copy) as (λ b. (if b then record m { is_resynced = true } else m).is_acked ≡ true) [ true ↦ h | false ↦ h ]

pub kept_left : (s : InSyncSet) (copy : ℕ) → copy ≢ s.primary → IsKept s → IsKept (left s copy)
kept_left s copy other kept = record {
  ascend = within-without copy 0 s.next s.members kept.ascend;
  few = omega (arith, length-without-le copy s.members, kept.few);
  primary_resynced = mark-without (λ m. m.is_resynced) copy s.primary (λ is. other (sym is)) s.members kept.primary_resynced;
  primary_acked = mark-without (λ m. m.is_acked) copy s.primary (λ is. other (sym is)) s.members kept.primary_acked;
  counted = omega arith;
}

pub kept_promoted : (s : InSyncSet) (copy count global : ℕ) → has s copy ≡ true → copy ≢ s.primary → IsKept s → IsKept (promoted s copy count global)
kept_promoted s copy count global there other kept = record {
  ascend = within-map (as_term_begins copy count) same 0 s.next (without s.primary s.members) (within-without s.primary 0 s.next s.members kept.ascend);
  few = simp length-map (omega (arith, length-without-le s.primary s.members, kept.few));
  primary_resynced = begins (λ m. m.is_resynced) (λ k n. refl) copy count s.primary other s.members there;
  primary_acked = begins (λ m. m.is_acked) (λ k n. refl) copy count s.primary other s.members there;
  counted = omega arith;
}
  where
    same : (m : Member) → (as_term_begins copy count m).copy ≡ m.copy
    same m =
        elim (m.copy == copy) as (λ b. (if b then in_step m.copy count else record { copy = m.copy; known = 0; is_resynced = false; is_acked = false }).copy ≡ m.copy) [
          | true ↦ refl
          | false ↦ refl
        ]

pub kept_added : (s : InSyncSet) (count : ℕ) → length s.members < 8 → IsKept s
    → IsKept record {
      term = s.term;
      primary = s.primary;
      next = s.next + 1;
      global = max s.global (least_known (s.members ++ in_step s.next count ∷ []));
      members = s.members ++ in_step s.next count ∷ [];
    }
kept_added s count room kept = record {
  ascend = within-push 0 s.next count s.members kept.ascend;
  few = simp length-append (omega arith);
  primary_resynced = mark-push (λ m. m.is_resynced) s.primary (in_step s.next count) s.members kept.primary_resynced;
  primary_acked = mark-push (λ m. m.is_acked) s.primary (in_step s.next count) s.members kept.primary_acked;
  counted = omega arith;
}

pub kept_one : (copy next term : ℕ) → copy < next → IsKept (set_of_one copy next term)
kept_one copy next term lt = record {
  ascend = (omega arith, omega arith);
  few = omega arith;
  primary_resynced = let self : (copy == copy) ≡ true = grind arith in rw self;
  primary_acked = let self : (copy == copy) ≡ true = grind arith in rw self;
  counted = omega arith;
}

pub kept_first : (copies : ℕ) → 1 ≤ copies → copies ≤ 8 → IsKept (first_set copies)
kept_first copies some few = record {
  ascend = ascends copies;
  few = omega (arith, long copies);
  primary_resynced = marked (λ m. m.is_resynced) refl copies some;
  primary_acked = marked (λ m. m.is_acked) refl copies some;
  counted = least copies some;
}
  where
    ascends : (n : ℕ) → AscendWithin 0 n (first_copies n)
    ascends zero = omega arith
    ascends (suc n) = rw (sym (add-one n)) (within-push 0 n 0 (first_copies n) (ascends n))

    long : (n : ℕ) → length (first_copies n) ≡ n
    long zero = refl
    long (suc n) = simp length-append (omega (arith, long n))

    marked : (mark : Member → Bool) → mark (in_step 0 0) ≡ true → (n : ℕ) → 1 ≤ n → option_map_or mark (member_of (first_copies n) 0) false ≡ true
    marked mark step zero le = absurd (omega arith)
    marked mark step (suc zero) le = step
    marked mark step (suc (suc n)) le = mark-push mark 0 (in_step (suc n) 0) (first_copies (suc n)) (marked mark step (suc n) (omega arith))

    begun : (n : ℕ) → (rest : List Member) × (first_copies (suc n) ≡ in_step 0 0 ∷ rest)
    begun zero = ([], refl)
    begun (suc n) = let before = begun n in (before.0 ++ in_step (suc n) 0 ∷ [], ap (λ ms. ms ++ in_step (suc n) 0 ∷ []) before.1)

    least : (n : ℕ) → 1 ≤ n → least_known (first_copies n) ≤ 0
    least zero le = absurd (omega arith)
    least (suc n) le =
        let is = begun n in
        subst (λ (ms : List Member). least_known ms ≤ 0) (sym is.1) (least_known-le (in_step 0 0) is.0)

pub least_behind : (s : InSyncSet) (result : Option ℕ) → IsKept s → result ≡ option_map (λ m. m.copy) (find (is_behind s.primary) s.members)
    → MatchOption result (All (λ m. is_behind s.primary m ≡ false) s.members) (IsLeastBehind s)
least_behind s result kept is =
    subst (λ (r : Option ℕ). MatchOption r (All (λ m. is_behind s.primary m ≡ false) s.members) (IsLeastBehind s)) (sym is)
    ((elim (find (is_behind s.primary) s.members) as (λ o. find (is_behind s.primary) s.members ≡ o
    → MatchOption (option_map (λ m. m.copy) o) (All (λ m. is_behind s.primary m ≡ false) s.members) (IsLeastBehind s)) [
      | None ↦ λ none. find_none (is_behind s.primary) s.members none
      | Some found ↦ λ at. record {
        behind = find_passes (is_behind s.primary) 0 s.next s.members found kept.ascend at;
        least = find_least (is_behind s.primary) 0 s.next s.members found kept.ascend at;
      }
    ]) refl)

-- the same of what the code leaves, field by field

pub acked_left : (term primary next global : ℕ) (members left : List Member) (copy count result : ℕ)
    → IsKept record { term = term; primary = primary; next = next; global = global; members = members }
    → left ≡ map (as_acked copy count) members → result ≡ max global (least_known left)
    → IsKept record { term = term; primary = primary; next = next; global = result; members = left }
acked_left term primary next global members left copy count result kept is counted =
    same_kept term primary next result (max global (least_known (map (as_acked copy count) members))) left (map (as_acked copy count) members)
    (counted ∙ ap (λ ms. max global (least_known ms)) is) is
    (kept_acked record { term = term; primary = primary; next = next; global = global; members = members } copy count kept)

pub resynced_left : (term primary next global : ℕ) (members left : List Member) (copy : ℕ)
    → IsKept record { term = term; primary = primary; next = next; global = global; members = members }
    → left ≡ map (as_resynced copy) members
    → IsKept record { term = term; primary = primary; next = next; global = global; members = left }
resynced_left term primary next global members left copy kept is =
    same_kept term primary next global global left (map (as_resynced copy) members) refl is
    (kept_resynced record { term = term; primary = primary; next = next; global = global; members = members } copy kept)

pub left_left : (term primary next global : ℕ) (members left : List Member) (copy result : ℕ)
    → IsKept record { term = term; primary = primary; next = next; global = global; members = members }
    → copy ≢ primary → left ≡ without copy members → result ≡ max global (least_known left)
    → IsKept record { term = term; primary = primary; next = next; global = result; members = left }
left_left term primary next global members left copy result kept other is counted =
    same_kept term primary next result (max global (least_known (without copy members))) left (without copy members)
    (counted ∙ ap (λ ms. max global (least_known ms)) is) is
    (kept_left record { term = term; primary = primary; next = next; global = global; members = members } copy other kept)

pub promoted_left : (term primary next global : ℕ) (members left : List Member) (copy count told result : ℕ)
    → IsKept record { term = term; primary = primary; next = next; global = global; members = members }
    → is_some (member_of members copy) ≡ true → copy ≢ primary
    → left ≡ map (as_term_begins copy count) (without primary members) → result ≡ max told (least_known left)
    → IsKept record { term = term + 1; primary = copy; next = next; global = result; members = left }
promoted_left term primary next global members left copy count told result kept there other is counted =
    same_kept (term + 1) copy next result (max told (least_known (map (as_term_begins copy count) (without primary members)))) left
    (map (as_term_begins copy count) (without primary members)) (counted ∙ ap (λ ms. max told (least_known ms)) is) is
    (kept_promoted record { term = term; primary = primary; next = next; global = global; members = members } copy count told there other kept)

pub added_left : (term primary next global : ℕ) (members left : List Member) (count result : ℕ)
    → IsKept record { term = term; primary = primary; next = next; global = global; members = members }
    → length members < 8 → left ≡ members ++ in_step next count ∷ [] → result ≡ max global (least_known left)
    → IsKept record { term = term; primary = primary; next = next + 1; global = result; members = left }
added_left term primary next global members left count result kept room is counted =
    same_kept term primary (next + 1) result (max global (least_known (members ++ in_step next count ∷ []))) left (members ++ in_step next count ∷ [])
    (counted ∙ ap (λ ms. max global (least_known ms)) is) is
    (kept_added record { term = term; primary = primary; next = next; global = global; members = members } count room kept)

pub first_left : (copies copy : ℕ) (members : List Member) → 1 ≤ copies → copies ≤ 8 → copy ≡ copies → members ≡ first_copies copy
    → IsKept record { term = 1; primary = 0; next = copies; global = 0; members = members }
first_left copies copy members some few all is =
    same_kept 1 0 copies 0 0 members (first_copies copies) refl (is ∙ ap first_copies all) (kept_first copies some few)
