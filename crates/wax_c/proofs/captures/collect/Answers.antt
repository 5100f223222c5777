use Rattle.std.proofs.Common.{◌≡◌, ◌+◌, ◌∷◌, ◌++◌, [], Some, None, slice_get, chars, length, ap, sym, ◌∙◌}
use Rattle.std.proofs.Common.{subst, arith}
use Rattle.wax.specs.Matching.{texts}
use Rattle.wax_c.proofs.Collected.{collected_all, collected_next}
use Rattle.wax_c.proofs.captures.collect.Goals as goal

pub loop-part-preserved : goal.loop-part-preserved
loop-part-preserved c =
    let m = c.args.matched.now in
    let part = c.as_bytes.result.now in
    let counted : c.len.result ≡ length c.loop-part.lengths.items =
    omega (arith, c.len.ensures, c.loop-part.lengths.ok.0) in
    let next = c.in-Some.ensures ∙ ap (λ bytes. Some (chars bytes)) (sym c.as_bytes.ensures.value) in
    collected_next m.captures m.text part
    (record { bytes = c.loop-part.texts.items; lengths = c.loop-part.lengths.items })
    (record { bytes = c.extend_from_slice.new.self.items; lengths = c.push.new.self.items })
    c.as_bytes.ensures.utf8
    (subst (λ n. slice_get (texts m) (n + 1) ≡ Some (chars part)) counted next)
    c.loop-part.invariant
    c.in_ok-extend_from_slice.ensures.items
    (c.in_ok-push.ensures.items
    ∙ ap (λ bytes. c.loop-part.lengths.items ++ length bytes ∷ []) (sym c.as_bytes.ensures.value))

pub returns : goal.returns
returns c =
    let m = c.args.matched.now in
    let counted : c.len.result ≡ length c.loop-part.lengths.items =
    omega (arith, c.len.ensures, c.loop-part.lengths.ok.0) in
    collected_all m.captures m.text (length c.loop-part.lengths.items) _
    (subst (λ n. slice_get (texts m) (n + 1) ≡ None) counted c.in_default.ensures) c.loop-part.invariant
