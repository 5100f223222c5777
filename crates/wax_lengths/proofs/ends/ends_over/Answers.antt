use Rattle.std.proofs.Common.{◌≡◌, ◌+◌, ◌<◌, ◌++◌, ◌∷◌, [], ◌↔◌, ℕ, suc, IsTrue, List, drop, get_or, length}
use Rattle.std.proofs.{Common.{length-drop, take, sym, ◌∙◌, ap, arith, rules}, Math.Seq.take-suc}
use Rattle.std.proofs.lemmas.List.{get_or-drop}
use Rattle.wax_lengths.specs.Ends.{MarksBeginnings}
use Rattle.wax_program.specs.{Machine.Accepts, Threads.{AnyOf, IsDone}}
use Rattle.wax_program.proofs.Advancing.{round_accepts, round_ends}
use Rattle.wax_lengths.proofs.Lists.{read_within}
use Rattle.wax_lengths.proofs.Beginnings.{Leads, leads_step, leads_here, marked_push, marked_done}
use Rattle.wax_lengths.proofs.ends.ends_over.Goals as goal

pub returns-then-is_done-clause-marked : goal.returns-then-is_done-clause-marked
returns-then-is_done-clause-marked g c =
    let code = c.args.program.now.0 in
    let at : ℕ = c.args.at in
    let text : List ℕ = drop at c.args.text.now in
    let i : ℕ = c.loop-n.n in
    let p = g.R.Sets.position c.loop-n.sets in
    let here : IsTrue c.finish-ended.result ↔ Accepts code 0 (take i text) = leads_here code (take i text)
    p.pending c.finish-ended.result c.loop-n.invariant.leads c.finish-ended.ensures.decides in
    let pushed : MarksBeginnings code text (c.loop-n.ends.items ++ c.finish-ended.result ∷ []) (i + 1) =
    marked_push code text c.loop-n.ends.items i c.finish-ended.result c.loop-n.invariant.count
    c.loop-n.invariant.marked here in
    let same : c.push.new.self.items ≡ c.loop-n.ends.items ++ c.finish-ended.result ∷ [] = search rules in
    let marked : MarksBeginnings code text c.push.new.self.items (i + 1) = rw same pushed in
    let done : IsDone p = c.if-is_done.ensures in
    let lt : i < length text =
    omega (arith, length-drop at c.args.text.now, c.loop-n-test.true, c.len.ensures.is) in
    let ch : ℕ = get_or text i 0 in
    marked_done code text c.push.new.self.items i (length text + 1) ch p
    (search (rules, c.loop-n.invariant.count)) marked lt (read_within text i 0 ch lt)
    c.loop-n.invariant.leads c.loop-n.invariant.size done

pub loop-n-preserved : goal.loop-n-preserved
loop-n-preserved g c =
    let code = c.args.program.now.0 in
    let at : ℕ = c.args.at in
    let text : List ℕ = drop at c.args.text.now in
    let i : ℕ = c.loop-n.n in
    let ch : ℕ = c.char_after.result in
    let lt : i < length text =
    omega (arith, length-drop at c.args.text.now, c.loop-n-test.true, c.len.ensures.is) in
    let is : get_or text i ch ≡ ch = get_or-drop at c.args.text.now i ch ∙ sym c.char_after.ensures in
    let old = g.R.Sets.position c.loop-n.sets in
    let p = g.R.Sets.position c.advance.new.sets in
    let sized = c.advance.ensures.size ∙ c.loop-n.invariant.size in
    let ended : IsTrue c.ends-ended.result ↔ AnyOf code old.pending [] = (
      (λ h. round_accepts code ch old.pending p sized c.advance.ensures.done c.advance.ensures.round
          (c.ends-ended.ensures.0 h)),
      (λ h. c.ends-ended.ensures.1
          (round_ends code ch old.pending p sized c.advance.ensures.done c.advance.ensures.round h)),
    ) in
    let here : IsTrue c.ends-ended.result ↔ Accepts code 0 (take i text) =
    leads_here code (take i text) old.pending c.ends-ended.result c.loop-n.invariant.leads ended in
    let pushed : MarksBeginnings code text (c.loop-n.ends.items ++ c.ends-ended.result ∷ []) (i + 1) =
    marked_push code text c.loop-n.ends.items i c.ends-ended.result c.loop-n.invariant.count
    c.loop-n.invariant.marked here in
    let same : c.push-in-loop-n.new.self.items ≡ c.loop-n.ends.items ++ c.ends-ended.result ∷ [] =
    search rules in
    let n : i + 1 ≡ suc i = omega arith in
    let more : take (i + 1) text ≡ take i text ++ ch ∷ [] =
    ap (λ k. take k text) n ∙ take-suc text i ch lt ∙ ap (λ z. take i text ++ z ∷ []) is in
    let led : Leads code (take i text ++ ch ∷ []) p.next = leads_step code
    (take i text) old.pending p.next ch c.loop-n.invariant.leads c.advance.ensures.advances in
    record {
      size = c.turn.ensures.size ∙ sized;
      read = c.turn.ensures.read;
      next = c.turn.ensures.next;
      leads = rw (more, c.turn.ensures.pending) led;
      count = search (rules, c.loop-n.invariant.count);
      marked = rw same pushed;
      above = omega (arith, c.advance.ensures.above, c.loop-n.invariant.above);
      steady = omega (arith, c.advance.ensures.steady, c.loop-n.invariant.steady);
    }

pub returns-clause-marked : goal.returns-clause-marked
returns-clause-marked g c =
    let code = c.args.program.now.0 in
    let at : ℕ = c.args.at in
    let text : List ℕ = drop at c.args.text.now in
    let i : ℕ = c.loop-n.n in
    let p = g.R.Sets.position c.loop-n.sets in
    let here : IsTrue c.finish-ended-2.result ↔ Accepts code 0 (take i text) = leads_here code (take i text)
    p.pending c.finish-ended-2.result c.loop-n.invariant.leads c.finish-ended-2.ensures.decides in
    let pushed : MarksBeginnings code text (c.loop-n.ends.items ++ c.finish-ended-2.result ∷ []) (i + 1) =
    marked_push code text c.loop-n.ends.items i c.finish-ended-2.result c.loop-n.invariant.count
    c.loop-n.invariant.marked here in
    let same : c.push-2.new.self.items ≡ c.loop-n.ends.items ++ c.finish-ended-2.result ∷ [] = search rules in
    let n : i ≡ length text = omega (
      arith,
      length-drop at c.args.text.now,
      c.loop-n-test.false,
      c.loop-n.auto.n-end,
      c.len.ensures.is,
      c.requires.at,
    ) in
    rw (same, ← n) pushed
