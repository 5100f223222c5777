use Rattle.std.proofs.Common.{rules, ◌≡◌, ◌∙◌, ◌+◌, ◌++◌, ◌∷◌, [], sym, ap, arith, true, false, drop, max}
use Rattle.std.proofs.lemmas.List.{append_assoc, take_rest}
use Rattle.std.specs.List.{position_or_len}
use Rattle.wax_components.proofs.Runs.{next_part, part_fits}
use Rattle.wax_components.specs.Parts.{components_in}
use Rattle.wax_token.specs.Kinds.{is_boundary, is_separator}
use Rattle.wax_components.proofs.parts.components_in.Goals as goal

pub overflow_add-end : goal.overflow_add-end
overflow_add-end g c =
    let ts = c.args.tokens.now in
    let i = c.loop-start.start in
    let n : c.max.result ≡ max (position_or_len is_boundary (drop i ts)) 1 =
    c.max.ensures
    ∙ ap (λ z. max z 1) (c.run_len.ensures ∙ ap (position_or_len is_boundary) (take_rest ts i)) in
    omega (arith, n, part_fits ts i c.loop-start-test.true)

pub loop-start-preserved-in_ok-push : goal.loop-start-preserved-in_ok-push
loop-start-preserved-in_ok-push g c =
    let ts = c.args.tokens.now in
    let i = c.loop-start.start in
    let old = c.loop-start.components.items in
    let n : c.max.result ≡ max (position_or_len is_boundary (drop i ts)) 1 =
    c.max.ensures
    ∙ ap (λ z. max z 1) (c.run_len.ensures ∙ ap (position_or_len is_boundary) (take_rest ts i)) in
    let part = next_part ts i c.max.result c.index-tokens-start.result c.loop-start-test.true
    c.index-tokens-start.is n in
    let plain : is_separator c.index-tokens-start.result ≡ false = search rules in
    let after = components_in true (drop (i + c.max.result) ts) in
    record {
      parts =
          ap (λ z. z ++ after) c.in_ok-push.ensures.items
          ∙ append_assoc old (c.new.result ∷ []) after
          ∙ ap (λ z. old ++ z ∷ after) c.new.ensures
          ∙ ap (λ z. old ++ z) (sym (part.2 plain))
          ∙ c.loop-start.invariant.parts;
      within = part.0;
    }
