use Rattle.std.proofs.Common.{◌≡◌, ◌<◌, ◌≤◌, ◌+◌, ◌∷◌, ◌++◌, [], get_or, take, drop, length, min, ap, sym}
use Rattle.std.proofs.Common.{◌∙◌, subst, length-append, take_all, arith}
use Rattle.std.specs.List.{AllZip}
use Rattle.wax_c.specs.{inner.Spelled.SpellsOnly, Sets.cut_each}
use Rattle.wax_c.proofs.CutEach.{AllZip-more, length-cut_each, part_next}
use Rattle.wax_c.proofs.sets.read_each.Goals as goal

pub loop-rest-preserved : goal.loop-rest-preserved
loop-rest-preserved c =
    let v = c.loop-rest.invariant in
    let read = c.loop-rest.expressions.items in
    let ns = c.args.lengths.now in
    let parts = cut_each c.args.patterns.now ns in
    let within : length read < length ns =
    omega (arith, c.loop-rest-test.true, c.len.ensures, c.loop-rest.expressions.ok.0) in
    let at : c.len-in-loop-rest.result ≡ length read =
    omega (arith, c.len-in-loop-rest.ensures, c.loop-rest.expressions.ok.0) in
    let least = c.min-length.ensures ∙ ap (λ n. min (get_or ns n 0) (length c.loop-rest.rest.now)) at in
    let p = part_next c.loop-rest.rest.now ns parts (length read) c.min-length.result _ _ v.others within
    least c.split_at.ensures.front c.split_at.ensures.back in
    let pushed = c.in-Ok.ensures.items in
    let longer = length-append read (c.in-Some.expression ∷ []) in
    let grown : length c.push.new.self.items ≡ length read + 1 = ap length pushed ∙ longer in
    record {
      each = subst (λ zs. AllZip SpellsOnly (take (length zs) parts) zs) (sym pushed)
          (subst (λ xs. AllZip SpellsOnly xs (read ++ c.in-Some.expression ∷ []))
          (sym (ap (λ n. take n parts) longer ∙ p.front))
          (AllZip-more SpellsOnly (take (length read) parts) read c.split_at.result.0.now c.in-Some.expression
          v.each c.in-Some.ensures));
      others = ap (λ n. drop n parts) grown ∙ p.rest
          ∙ ap (λ n. cut_each c.split_at.result.1.now (drop n ns)) (sym grown);
      within = omega (arith, grown, within);
    }

pub returns : goal.returns
returns c =
    let parts = cut_each c.args.patterns.now c.args.lengths.now in
    let k = length c.loop-rest.expressions.items in
    let all : length parts ≤ k = omega (
      arith,
      length-cut_each c.args.patterns.now c.args.lengths.now,
      c.loop-rest-test.false,
      c.len.ensures,
      c.loop-rest.expressions.ok.0,
    ) in
    subst (λ xs. AllZip SpellsOnly xs c.loop-rest.expressions.items) (take_all k parts all)
    c.loop-rest.invariant.each
