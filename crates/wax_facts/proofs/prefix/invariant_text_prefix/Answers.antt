use Rattle.std.proofs.Common.{◌≡◌, ◌∙◌, ap, sym, subst, refl, inl, inr, true≢false, chars, string_bytes}
use Rattle.std.proofs.lemmas.Result.{IfOk-weaker}
use Rattle.wax_token.specs.Words.{trees}
use Rattle.wax_facts.specs.Prefix.{IsRooted, PrefixOf, opened, opened_last}
use Rattle.wax_facts.proofs.{Openings.opened_members, PrefixSound.prefix_sound, PrefixUnique.prefix_unique}
use Rattle.wax_facts.proofs.TextSteps.{chars_slash}
use Rattle.wax_facts.proofs.prefix.invariant_text_prefix.Goals as goal

pub returns-then-branch-clause-prefix : goal.returns-then-branch-clause-prefix
returns-then-branch-clause-prefix g c =
    let e : opened_last (trees c.opened_from-tokens.result.now) ≡ opened c.args.token.now =
    c.opened_from-tokens.ensures.same ∙ ap opened_last c.concatenation.ensures
    ∙ opened_members c.args.token.now in
    inl (
      subst IsRooted e (c.in_ok-begins_rooted.ensures.0 c.if-branch.true),
      refl,
      ap chars c.in_ok-from_str.ensures.ok ∙ chars_slash,
    )

pub returns-then-branch-clause-front : goal.returns-then-branch-clause-front
returns-then-branch-clause-front g c =
    λ s m. prefix_sound c.args.token.now 0 _ s (returns-then-branch-clause-prefix g c) m

pub returns-clause-prefix : goal.returns-clause-prefix
returns-clause-prefix g c =
    let e : opened_last (trees c.opened_from-tokens.result.now) ≡ opened c.args.token.now =
    c.opened_from-tokens.ensures.same ∙ ap opened_last c.concatenation.ensures
    ∙ opened_members c.args.token.now in
    IfOk-weaker c.cut_prefix.result _ _ (λ r h. subst (λ z. PrefixOf z r.0 (chars (string_bytes r.1))) e
    (inr ((λ k. true≢false (sym (c.in_ok-begins_rooted.ensures.1 k) ∙ c.if-branch.false)), h)))
    c.cut_prefix.ensures

pub returns-clause-front : goal.returns-clause-front
returns-clause-front g c =
    IfOk-weaker c.cut_prefix.result _ _ (λ r h s m.
    prefix_sound c.args.token.now r.0 (chars (string_bytes r.1)) s h m) (returns-clause-prefix g c)

pub returns-then-branch-clause-only : goal.returns-then-branch-clause-only
returns-then-branch-clause-only g c =
    λ n p h. prefix_unique c.args.token.now n 0 p _ h (returns-then-branch-clause-prefix g c)

pub returns-clause-only : goal.returns-clause-only
returns-clause-only g c =
    IfOk-weaker c.cut_prefix.result _ _ (λ r h n p k.
    prefix_unique c.args.token.now n r.0 p (chars (string_bytes r.1)) k h) (returns-clause-prefix g c)
