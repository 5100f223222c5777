use Rattle.std.proofs.Common.{◌≡◌, ◌<◌, ◌≤◌, ◌+◌, ◌∷◌, ◌++◌, [], slice_get, get_or, take, drop, length, min}
use Rattle.std.proofs.Common.{refl, ap, sym, ◌∙◌, subst, length-append, take_all, arith}
use Rattle.std.specs.List.{AllZip}
use Rattle.wax_c.specs.{Outcomes.IsGlobOf, Sets.{cut_each, unbuilt, no_memory}}
use Rattle.wax_c.proofs.CutEach.{AllZip-more, length-cut_each, part_next}
use Rattle.wax_c.proofs.sets.globs_of.Goals as goal

pub returns-in-Err : goal.returns-in-Err
returns-in-Err c =
    let v = c.loop-rest.invariant in
    let globs = c.loop-rest.globs.items in
    let ns = c.args.lengths.now in
    let parts = cut_each c.args.patterns.now ns in
    let within : length globs < length ns =
    omega (arith, c.loop-rest-test.true, c.len.ensures, c.loop-rest.globs.ok.0) in
    let at : c.len-in-loop-rest.result ≡ length globs =
    omega (arith, c.len-in-loop-rest.ensures, c.loop-rest.globs.ok.0) in
    let counted : c.len-in-Err.result ≡ length globs =
    omega (arith, c.len-in-Err.ensures, c.loop-rest.globs.ok.0) in
    let least = c.min-length.ensures ∙ ap (λ n. min (get_or ns n 0) (length c.loop-rest.rest.now)) at in
    let p = part_next c.loop-rest.rest.now ns parts (length globs) c.min-length.result _ _ v.others within
    least c.split_at.ensures.front c.split_at.ensures.back in
    unbuilt (record {
      globs = globs;
      each = subst (λ n. AllZip IsGlobOf (take n parts) globs) (sym counted) v.each;
      pattern = c.split_at.result.0.now;
      pattern_is = ap (slice_get parts) counted ∙ p.item;
      unbuilt = c.in-Err.ensures;
    })

pub returns-in_default : goal.returns-in_default
returns-in_default c = no_memory refl (sym (length-cut_each c.args.patterns.now c.args.lengths.now))

pub loop-rest-preserved : goal.loop-rest-preserved
loop-rest-preserved c =
    let v = c.loop-rest.invariant in
    let globs = c.loop-rest.globs.items in
    let ns = c.args.lengths.now in
    let parts = cut_each c.args.patterns.now ns in
    let within : length globs < length ns =
    omega (arith, c.loop-rest-test.true, c.len.ensures, c.loop-rest.globs.ok.0) in
    let at : c.len-in-loop-rest.result ≡ length globs =
    omega (arith, c.len-in-loop-rest.ensures, c.loop-rest.globs.ok.0) in
    let least = c.min-length.ensures ∙ ap (λ n. min (get_or ns n 0) (length c.loop-rest.rest.now)) at in
    let p = part_next c.loop-rest.rest.now ns parts (length globs) c.min-length.result _ _ v.others within
    least c.split_at.ensures.front c.split_at.ensures.back in
    let pushed = c.in-Ok-push.ensures.items in
    let longer = length-append globs (c.in-Ok.glob ∷ []) in
    let grown : length c.push.new.self.items ≡ length globs + 1 = ap length pushed ∙ longer in
    record {
      each = subst (λ zs. AllZip IsGlobOf (take (length zs) parts) zs) (sym pushed)
          (subst (λ xs. AllZip IsGlobOf xs (globs ++ c.in-Ok.glob ∷ []))
          (sym (ap (λ n. take n parts) longer ∙ p.front))
          (AllZip-more IsGlobOf (take (length globs) parts) globs c.split_at.result.0.now c.in-Ok.glob
          v.each c.in-Ok.ensures));
      others = ap (λ n. drop n parts) grown ∙ p.rest
          ∙ ap (λ n. cut_each c.split_at.result.1.now (drop n ns)) (sym grown);
      within = omega (arith, grown, within);
    }

pub returns : goal.returns
returns c =
    let parts = cut_each c.args.patterns.now c.args.lengths.now in
    let k = length c.loop-rest.globs.items in
    let all : length parts ≤ k = omega (
      arith,
      length-cut_each c.args.patterns.now c.args.lengths.now,
      c.loop-rest-test.false,
      c.len.ensures,
      c.loop-rest.globs.ok.0,
    ) in
    subst (λ xs. AllZip IsGlobOf xs c.loop-rest.globs.items) (take_all k parts all) c.loop-rest.invariant.each
