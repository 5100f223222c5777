-- Where every pair was followed, each text leads to one, or the search ends before.
use Rattle.std.proofs.Common.{◌≡◌, ◌⊎◌, ℕ, true, List, [], ◌∷◌, ◌++◌, Some, append-nil, append_assoc, ap, inl}
use Rattle.std.proofs.Common.{inr, length, map, slice_get, subst, sym, ◌∙◌}
use Rattle.std.proofs.lemmas.Option.{slice_get-map, slice_get_within}
use Rattle.std.specs.{Option.option_map, Str.all_scalars}
use Rattle.wax_compare.specs.Limit.{AcceptsNoneFrom, AreAllPairs, EndsSearch, LeadsToOneOf, PairOfStates}
use Rattle.wax_compare.specs.{declared.pairs.Reached.Reached, inner.Going.GoesOnAmong}
use Rattle.wax_compare.specs.inner.Reaching.{AreFollowed, AreReachedPairs, BeginAsPrograms, IsLedBy, Readings}
use Rattle.wax_compare.proofs.{Beginning.led_begin, Blocks.{scalar_first, scalar_rest}}
use Rattle.wax_compare.proofs.{Leading.{ends_from, led_along, leads_to, seen}, Steps.{allowed_first, kind_in}}

-- the pairs as a reader sees them
abbrev pub all_seen : Readings → List Reached → List PairOfStates
all_seen r reached = map (λ x. seen r x.pair) reached

pub seen_at : (r : Readings) (reached : List Reached) (i : ℕ) (x : Reached) → slice_get reached i ≡ Some x
    → slice_get (all_seen r reached) i ≡ Some (seen r x.pair)
seen_at r reached i x is = slice_get-map (λ y. seen r y.pair) reached i
    ∙ ap (option_map (λ y. seen r y.pair)) is

module _ (r : Readings) (reached : List Reached) (first : Reached)
    (is_first : slice_get reached 0 ≡ Some first) (pairs : AreReachedPairs r reached)
    (begin : BeginAsPrograms r) (followed : AreFollowed r reached (length reached)) where
  abbrev Ends : List ℕ → Type 0
  Ends text =
      EndsSearch r.task.wanted (AcceptsNoneFrom r.task.code text) (AcceptsNoneFrom r.task.other text)

  abbrev Leads : List ℕ → Type 0
  Leads text = LeadsToOneOf r.task.code r.task.other r.task.texts text (all_seen r reached)

  -- from a pair to which a text leads
  covered : (more text : List ℕ) (i : ℕ) (x : Reached) → slice_get reached i ≡ Some x
      → IsLedBy r text x.pair → all_scalars more ≡ true → (rest : List ℕ)
      → GoesOnAmong r.task.texts x.pair.may_end (more ++ rest) → Ends (text ++ more) ⊎ Leads (text ++ more)
  covered [] text i x is led scalars rest among =
      inr (subst Leads (sym (append-nil text))
      (i, seen r x.pair, seen_at r reached i x is, leads_to r text x.pair led))
  covered (c ∷ more) text i x is led scalars rest among =
      elim (followed i c x (slice_get_within reached i x is) is (scalar_first c more scalars)
      (allowed_first r.task.texts x.pair.may_end c (more ++ rest) among)) [
        | inl ends ↦ inl (ends_from r text more x.pair c led ends)
        | inr next ↦ subst (λ z. Ends z ⊎ Leads z) (append_assoc text (c ∷ []) more)
            (covered more (text ++ c ∷ []) next.at next.next next.is
            (led_along r text x.pair next.next.pair c led next.step) (scalar_rest c more scalars) rest
            ((next.step.among (more ++ rest)).0 among))
      ]

  -- from the beginning
  pub all_pairs : AreAllPairs r.task.code r.task.other r.task.wanted r.task.texts (all_seen r reached)
  all_pairs text begins =
      let b = pairs.beginning first is_first in
      let led : IsLedBy r [] first.pair = led_begin r first.pair begin b.0 b.1 b.2 in
      covered text [] 0 first is_first led begins.scalars begins.rest
      ((led.among (text ++ begins.rest)).0 (kind_in r.task.texts (text ++ begins.rest) begins.among))
