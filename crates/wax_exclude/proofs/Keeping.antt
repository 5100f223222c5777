-- What is kept of a plain walk without what lines ignore, as the walk of `**`.
use Rattle.std.proofs.Common.{◌≡◌, ◌∙◌, ◌++◌, ◌&&◌, ◌∷◌, [], ℕ, Bool, true, false, List, ap, arith, filter}
use Rattle.std.proofs.Common.{refl, subst, sym}
use Rattle.std.specs.Prelude.{if◌then◌else◌}
use Rattle.wax_directory.specs.Shown.{Shown}
use Rattle.wax_tree.specs.{Begins.scope_in, Plain.plain, Whole.{is_in, whole}}
use Rattle.wax_walk.specs.{Collected.IsCutShort, declared.error.FaultKind.TheVariants.Budget}
use Rattle.wax_walk.specs.Forest.{listings, nothing, preorder}
use Rattle.wax_walk.specs.Given.{Given, kept, alone, with_tree, entry, fault, no_memory, is_kept}
use Rattle.wax_exclude.proofs.Headline.{gives_wanted}
use Rattle.wax_exclude.proofs.TreeRequests.{can_walk, not_beyond, unchanged, wants_unfiltered}
use Rattle.wax_exclude.specs.GlobRequests.{AreOpened, KeepsWanted, request_walk}
use Rattle.wax_exclude.specs.Kept.{KeepsUnignored, PlainRequest, unignored_entries, unignored_request}
use Rattle.wax_exclude.specs.{Kept.unignored_walk, Premises.IsPlainShown}
use Rattle.wax_exclude.specs.TreeRequests.{WantsUnfiltered, is_unfiltered}
use Rattle.wax_exclude.specs.Unignored.{GivesUnignored, LosesIgnored, ignore_rules, is_unignored}
use Rattle.wax_exclude.specs.Walked.{glob_walk, wanted_entries}
use Rattle.wax_exclude.specs.Wanted.{is_kept_entry, not_ignored, stacked}
use Rattle.wax_exclude.specs.Due as due

and_yes : (b : Bool) → (b && true) ≡ b
and_yes true = refl
and_yes false = refl

module _ (request : PlainRequest) (s : Shown) where
  unfiltered_walk : glob_walk (unignored_request request).wanted request.range
      (unignored_request request).origin s ≡ unignored_walk request s
  unfiltered_walk =
      ap (stacked (ignore_rules request.lines)) (unchanged (plain (scope_in request.range) request.start s))

  -- what the walk of `**` yields
  same_walk : request_walk (unignored_request request) s ≡ unignored_walk request s
  same_walk =
      ap (λ b. if b then nothing else glob_walk (unignored_request request).wanted request.range
      (unignored_request request).origin s) (not_beyond request.range request.start) ∙ unfiltered_walk

  unfiltered : (x : Given) → is_unfiltered (not_ignored request.lines ∷ []) x ≡ is_unignored request.lines x
  unfiltered (entry kept f) = and_yes (is_unignored request.lines (entry kept f))
  unfiltered (entry alone f) = refl
  unfiltered (entry with_tree f) = refl
  unfiltered (fault kind path depth) = refl
  unfiltered no_memory = refl

  -- which entries of it are wanted
  same_entries : WantsUnfiltered → wanted_entries (unignored_request request).wanted request.range
      (unignored_request request).origin s ≡ unignored_entries request s
  same_entries wants = wants (not_ignored request.lines ∷ []) request.range request.start s
      ∙ (λ i. filter (λ x. is_in request.range x && unfiltered x i) (whole request.start s))

  -- so what it keeps is what is kept of a plain walk without what the lines ignore
  pub keeps_unignored : WantsUnfiltered → LosesIgnored → IsPlainShown s → (tells : List (List ℕ) → Type 0)
      (listed : List (List ℕ)) (ys : List Given)
      → KeepsWanted tells (unignored_request request) s listed ys → KeepsUnignored tells request s listed ys
  keeps_unignored wants loses plain tells listed ys (due.gives gave entries told lists) =
      due.gives (gave ∙ ap (λ f. filter is_kept (preorder f)) same_walk) (entries ∙ same_entries wants)
      (subst (λ f. tells (listed ++ listings f)) same_walk told) (
        loses request.lines request.range request.start s plain,
        subst (λ f. AreOpened (unignored_request request) s (listings f)) same_walk lists,
      )
  keeps_unignored wants loses plain tells listed ys (due.lacks_memory cut) =
      due.lacks_memory
      (subst (λ f. IsCutShort (filter is_kept (preorder f)) no_memory ys) same_walk cut)
  keeps_unignored wants loses plain tells listed ys (due.over_budget path depth few cut) =
      due.over_budget path depth few
      (subst (λ f. IsCutShort (filter is_kept (preorder f)) (fault Budget path depth) ys) same_walk cut)

pub gives_unignored : GivesUnignored
gives_unignored lines range start s plain =
    let request : PlainRequest = record { lines = lines; range = range; start = start } in
    let walk = unignored_request request in
    ap (λ f. filter is_kept_entry (preorder f)) (sym (unfiltered_walk request s))
    ∙ (gives_wanted walk.wanted range range walk.origin
    (can_walk range start (not_ignored lines ∷ [])) s plain tt (omega arith)
    ∙ same_entries request s wants_unfiltered)
