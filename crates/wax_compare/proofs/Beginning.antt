-- The pair of the beginning.
use Rattle.std.proofs.Common.{◌≡◌, ◌<◌, ◌↔◌, ℕ, zero, suc, List, [], ◌∷◌, Some, length, slice_get, refl, sym}
use Rattle.std.proofs.{Common.{ap, subst, arith}, lemmas.Option.slice_get_within}
use Rattle.wax_program.specs.declared.instruction.Instruction.{Instruction}
use Rattle.wax_compare.specs.{declared.pairs.StatePair.StatePair, declared.pairs.Reached.Reached}
use Rattle.wax_compare.specs.{declared.search.Search.Search, Comparison.IsShortest}
use Rattle.wax_compare.specs.{Cuts.{AreLetters, AreUnlike}, Limit.IsAtPlaces}
use Rattle.wax_compare.specs.{inner.Going.{Goes, GoesOnAmong, starts}, inner.Automata.state_places}
use Rattle.wax_compare.specs.inner.Reaching.{BeginAsPrograms, GoesAt, GoesFrom, HasTextToPair, IsLedBy}
use Rattle.wax_compare.specs.{inner.Reaching.Readings, inner.Searching.{AreAutomataOf, WantedText, readings}}
use Rattle.wax_compare.specs.inner.Visiting.{IsHeld}
use Rattle.wax_compare.proofs.{Steps.goes_wanted, Visiting.some_same}

only : (x y : Reached) (i : ℕ) → slice_get (x ∷ []) i ≡ Some y → (i ≡ 0) × (x ≡ y)
only x y zero is = (refl, some_same is)
only x y (suc i) is = absurd
    (let lt : suc i < 1 = slice_get_within (x ∷ []) (suc i) y is in let no : ⊥ = omega (arith, lt) in no)

-- the empty text leads to the beginning
pub led_begin : (r : Readings) (p : StatePair) → BeginAsPrograms r → p.first ≡ 0 → p.second ≡ 0
    → p.may_end ≡ starts r.task.texts → IsLedBy r [] p
led_begin r p begin first second begun = record {
  first = subst (λ n. IsAtPlaces r.task.code [] (state_places r.firsts n)) (sym first) begin.first.accepts;
  second = subst (λ n. IsAtPlaces r.task.other [] (state_places r.seconds n)) (sym second)
      begin.second.accepts;
  among = λ s. subst (λ b. GoesOnAmong r.task.texts (starts r.task.texts) s ↔ GoesOnAmong r.task.texts b s)
      (sym begun) ((λ h. h), (λ h. h));
}

pub held_begin : (code other : List Instruction) (s : Search) (x : Reached) → AreAutomataOf code other s
    → AreLetters code other s.letters.items → AreUnlike code other s.letters.items
    → BeginAsPrograms (readings code other s)
    → x.pair.first ≡ 0 → x.pair.second ≡ 0 → x.pair.may_end ≡ starts s.texts → x.depth ≡ 0
    → (GoesFrom (readings code other s) x.pair [] → ⊥) → IsHeld code other s (x ∷ []) 0
held_begin code other s x automata letters unlike begin first second begun zeroth unwanted = record {
  automata = automata;
  letters = letters;
  unlike = unlike;
  begin = begin;
  pairs = record {
    placed = λ i y is. subst (λ z. (z.pair.first < length s.first.states.items)
        × (z.pair.second < length s.second.states.items)) (only x y i is).1
        (omega (arith, first, begin.first.some), omega (arith, second, begin.second.some));
    led = λ i y is. subst (λ z. HasTextToPair (readings code other s) z.pair) (only x y i is).1
        ([], refl, led_begin (readings code other s) x.pair begin first second begun);
    differ = λ i j y z lt isy isz same. absurd
        (let no : ⊥ = omega (arith, lt, (only x y i isy).0, (only x z j isz).0) in no);
    beginning = λ y is. subst (λ z. (z.pair.first ≡ 0) × (z.pair.second ≡ 0)
        × (z.pair.may_end ≡ starts s.texts) × (z.depth ≡ 0)) (only x y 0 is).1 (first, second, begun, zeroth);
    some = omega arith;
    came = λ i y lt is. absurd (let no : ⊥ = omega (arith, lt, (only x y i is).0) in no);
    none = λ i y is h. unwanted (subst (λ z. GoesAt (readings code other s) z []) (sym (only x y i is).1) h);
    low = λ i y is.
        (let d : x.depth ≡ y.depth = ap (λ z. z.depth) (only x y i is).1 in omega (arith, d, zeroth));
    rises = λ i j y z le isy isz. (let d : x.depth ≡ y.depth = ap (λ w. w.depth) (only x y i isy).1 in
        let e : x.depth ≡ z.depth = ap (λ w. w.depth) (only x z j isz).1 in omega (arith, d, e));
  };
  followed = λ i c y lt is scalar. absurd (let no : ⊥ = omega (arith, lt) in no);
  shallow = λ i y z isy isz.
      (let d : x.depth ≡ y.depth = ap (λ w. w.depth) (only x y i isy).1 in omega (arith, d, zeroth));
}

-- the empty text is wanted
pub wanted_empty : (code other : List Instruction) (s : Search) (p : StatePair) (t : List ℕ) → t ≡ []
    → BeginAsPrograms (readings code other s) → p.first ≡ 0 → p.second ≡ 0 → p.may_end ≡ starts s.texts
    → GoesFrom (readings code other s) p []
    → IsShortest (WantedText code other s) t
wanted_empty code other s p t e begin first second begun h =
    let r : Readings = readings code other s in
    let here : Goes r.task (state_places r.firsts 0) (state_places r.seconds 0) (starts s.texts) [] =
    subst (λ f. Goes r.task (state_places r.firsts 0) (state_places r.seconds 0) f []) begun
    (subst (λ n. Goes r.task (state_places r.firsts 0) (state_places r.seconds n) p.may_end []) second
    (subst (λ n. Goes r.task (state_places r.firsts n) (state_places r.seconds p.second) p.may_end []) first
    h)) in
    let wanted : WantedText code other s [] =
    goes_wanted r.task (state_places r.firsts 0) (state_places r.seconds 0) begin.first.accepts
    begin.second.accepts [] refl here in (
      subst (WantedText code other s) (sym e) wanted,
      (λ u g. omega (arith, ap length e)),
    )
