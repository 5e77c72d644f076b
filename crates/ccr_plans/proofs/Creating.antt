-- What a new index comes to, by the parts that its code makes.
use Rattle.std.proofs.Common.{◌≡◌, ◌∙◌, List, None, sym, ap}
use Rattle.std.specs.Prelude.{flat_map}
use Rattle.std.specs.Option.{option_map_or}
use Rattle.ccr_op.specs.declared.index_name.IndexName.{IndexName}
use Rattle.ccr_meta.specs.declared.creating.Decided.{Decided}
use Rattle.ccr_meta.specs.declared.index_meta.IndexMeta.{IndexMeta}
use Rattle.ccr_meta.specs.declared.settings.Settings.{Settings}
use Rattle.ccr_meta.specs.Created.{created_reports}
use Rattle.ccr_meta.specs.Guards.{first_refusal}
use Rattle.ccr_meta.specs.NameGuards.{create_guards}
use Rattle.ccr_meta.specs.Names.{Names}
use Rattle.ccr_model.specs.Leaders.{Start}
use Rattle.ccr_answers.specs.declared.forms.Answer.TheVariants as answer
use Rattle.ccr_deeds.specs.declared.deeds.Deed.{Deed}
use Rattle.ccr_plans.specs.Forms.{first_refused, refused}
use Rattle.ccr_plans.specs.Made.{creation, followed_deeds, made_index, starts_from}
use Rattle.ccr_plans.specs.Planned.{Planned}

-- the plan of an index that is made so, for what was decided
abbrev made_with : IndexName → IndexMeta → List Decided → Planned
made_with index x list = record { made = starts_from index x 0 x.shards; deeds = flat_map (followed_deeds index x) list; answer = answer.Created list }

pub creation-is : (names : Names) (index leader : IndexName) (s : Settings) (x : IndexMeta) (made : List Start) (deeds : List Deed) (list decided : List Decided)
    → first_refusal (create_guards names index s) ≡ None → leader ≡ index → x ≡ made_index names leader s → made ≡ starts_from leader x 0 x.shards
    → deeds ≡ flat_map (followed_deeds leader x) list → list ≡ created_reports names index s → decided ≡ list
    → ◌≡◌ {A = Planned} (record { made = made; deeds = deeds; answer = answer.Created decided }) (first_refused (create_guards names index s) (creation names index s))
creation-is names index leader s x made deeds list decided none same new starts follow reports told =
    ap (λ (m : List Start). planned m deeds decided) starts ∙ (ap (λ (ds : List Deed). planned (starts_from leader x 0 x.shards) ds decided) follow
    ∙ (ap (λ (d : List Decided). planned (starts_from leader x 0 x.shards) (flat_map (followed_deeds leader x) list) d) told
    ∙ (ap (λ (y : IndexMeta). made_with leader y list) new ∙ (ap (λ (l : IndexName). made_with l (made_index names l s) list) same
    ∙ (ap (λ (d : List Decided). made_with index (made_index names index s) d) reports
    ∙ sym (ap (λ o. option_map_or refused o (creation names index s)) none))))))
  where
    planned : List Start → List Deed → List Decided → Planned
    planned m ds d = record { made = m; deeds = ds; answer = answer.Created d }
