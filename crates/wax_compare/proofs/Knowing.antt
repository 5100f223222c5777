-- The set of the pairs that were reached.
use Rattle.std.proofs.Common.{◌≡◌, ◌==◌, ◌&&◌, ◌∷◌, ◌++◌, [], Bool, HashSet, IsTrue, List, ap, cond, false}
use Rattle.std.proofs.{Common.{inl, inr, length, refl, subst, sym, true, ◌∙◌}, lemmas.Bool.{eq-eqb, eqb-true}}
use Rattle.std.specs.{Bool.beq, HashSet.{Updates, contains}}
use Rattle.wax_compare.specs.{declared.pairs.Reached.Reached, declared.pairs.StatePair.StatePair}
use Rattle.wax_compare.specs.{inner.Reaching.AreSamePairs, inner.Visiting.{AreKnown, HasPair, same_pair}}
use Rattle.wax_compare.proofs.{Pushing.{grow_push, old_or_new}, Visiting.get_end}

and_parts : (x y : Bool) → (x && y) ≡ true → (x ≡ true) × (y ≡ true)
and_parts true true e = (refl, refl)
and_parts true false e = cc
and_parts false y e = cc

and_both : (x y : Bool) → x ≡ true → y ≡ true → (x && y) ≡ true
and_both true true e f = refl
and_both true false e f = cc
and_both false y e f = cc

bits_same : (a b : Bool) → beq a b ≡ true → a ≡ b
bits_same true true e = refl
bits_same true false e = cc
bits_same false true e = cc
bits_same false false e = refl

bits_equal : (a b : Bool) → a ≡ b → beq a b ≡ true
bits_equal true true e = refl
bits_equal true false e = cc
bits_equal false true e = cc
bits_equal false false e = refl

same_fields : (p q : StatePair) → same_pair p q ≡ true → AreSamePairs p q
same_fields p q e =
    let one = and_parts (p.first == q.first) (p.second == q.second && beq p.may_end q.may_end) e in
    let two = and_parts (p.second == q.second) (beq p.may_end q.may_end) one.1 in
    record {
      first = eqb-true p.first q.first one.0;
      second = eqb-true p.second q.second two.0;
      may_end = bits_same p.may_end q.may_end two.1;
    }

fields_same : (p q : StatePair) → AreSamePairs p q → same_pair p q ≡ true
fields_same p q same = and_both (p.first == q.first) (p.second == q.second && beq p.may_end q.may_end)
    (eq-eqb p.first q.first same.first)
    (and_both (p.second == q.second) (beq p.may_end q.may_end) (eq-eqb p.second q.second same.second)
    (bits_equal p.may_end q.may_end same.may_end))

module _ {S : Type 0} (reached : List Reached) (x : Reached) (old new : HashSet StatePair S)
    (known : AreKnown reached old) (updates : Updates same_pair old new x.pair true) where
  has : (p : StatePair) (b : Bool) → same_pair x.pair p ≡ b → IsTrue (contains same_pair new p)
      → HasPair (reached ++ x ∷ []) p
  has p true e h =
      record { at = length reached; entry = x; is = get_end reached x; same = same_fields x.pair p e }
  has p false e h = let old_pair = (known p).0 (sym (updates.2 p e) ∙ h) in
      record {
        at = old_pair.at;
        entry = old_pair.entry;
        is = grow_push reached x old_pair.at old_pair.entry old_pair.is;
        same = old_pair.same;
      }

  is_there : (p : StatePair) → same_pair x.pair p ≡ true → IsTrue (contains same_pair new p)
  is_there p e = updates.0 p ∙ ap (λ b. cond b true (contains same_pair old p)) e

  stays_there : (p : StatePair) (b : Bool) → same_pair x.pair p ≡ b → IsTrue (contains same_pair old p)
      → IsTrue (contains same_pair new p)
  stays_there p true e h = is_there p e
  stays_there p false e h = updates.2 p e ∙ h

  found : (p : StatePair) → HasPair (reached ++ x ∷ []) p → IsTrue (contains same_pair new p)
  found p h = elim (old_or_new reached x h.at h.entry h.is) [
    | inl is ↦ (let before : HasPair reached p =
        record { at = h.at; entry = h.entry; is = is; same = h.same } in
        stays_there p (same_pair x.pair p) refl ((known p).1 before))
    | inr e ↦ is_there p (fields_same x.pair p (subst (λ y. AreSamePairs y.pair p) e.1 h.same))
  ]

  pub known_push : AreKnown (reached ++ x ∷ []) new
  known_push p = (has p (same_pair x.pair p) refl, found p)
