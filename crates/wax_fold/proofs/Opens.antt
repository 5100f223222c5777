-- What the outermost of open branches has doesn't change while its tokens are gone through.
use Rattle.std.proofs.Common.{◌≡◌, ℕ, ◌+◌, ◌<◌, ◌≤◌, List, [], ◌∷◌, ◌++◌, Option, map, refl, sym, ◌∙◌, ap}
use Rattle.std.proofs.Common.{arith, append_assoc, append-nil}
use Rattle.wax_token.specs.Syntax.{Tree}
use Rattle.wax_fold.specs.Folded.{listed_term}
use Rattle.wax_fold.specs.inner.Opens.{Open, with_one, results, closed, closed_all, total, steps_in}
use Rattle.wax_fold.specs.inner.Opens.{steps_left}

module _ {A T : Type 0} (result : Tree A → Option T) where
  -- all tokens have been gone through
  pub all_gone : (o : Open A T) → o.rest ≡ [] → closed result o ≡ o.close o.done
  all_gone o e = ap (λ z. o.close (o.done ++ results result z)) e ∙ ap o.close (append-nil o.done)

  -- one token less, and what it has more
  pub took : (o n : Open A T) (t : Tree A) (x : Option T) → o.rest ≡ t ∷ n.rest
      → n.close ≡ o.close → n.done ≡ o.done →
      x ≡ result t → closed result (with_one n x) ≡ closed result o
  took o n t x e c d h =
      ap (λ z. n.close ((n.done ++ listed_term z) ++ results result n.rest)) h
      ∙ ap n.close (append_assoc n.done (listed_term (result t)) (results result n.rest))
      ∙ ap (λ z. z (n.done ++ results result (t ∷ n.rest))) c
      ∙ ap (λ z. o.close (z ++ results result (t ∷ n.rest))) d
      ∙ ap (λ z. o.close (o.done ++ results result z)) (sym e)

  innermost : (os : List (Open A T)) (o : Open A T) (x : Option T) →
      closed_all result (os ++ o ∷ []) x ≡ closed_all result os (closed result (with_one o x))
  innermost [] o x = refl
  innermost (p ∷ os) o x = ap (λ z. closed result (with_one p z)) (innermost os o x)

  -- no branch is around
  pub alone : {X : Type 0} (view : X → Open A T) (xs : List X) (x : Option T) → xs ≡ []
      → closed_all result (map view xs) x ≡ x
  alone view xs x e = ap (λ z. closed_all result (map view z) x) e

  -- a token that is a branch is opened
  pub entered : (os all : List (Open A T)) (o n inner : Open A T) (t : Tree A) → all ≡ os ++ n ∷ [] →
      o.rest ≡ t ∷ n.rest → n.close ≡ o.close → n.done ≡ o.done → closed result inner ≡ result t →
      closed_all result all (closed result inner) ≡ closed_all result os (closed result o)
  entered os all o n inner t e r c d h =
      ap (λ z. closed_all result z (closed result inner)) e
      ∙ innermost os n (closed result inner)
      ∙ ap (closed_all result os) (took o n t (closed result inner) r c d h)

  -- a branch is closed
  pub left : (os all : List (Open A T)) (o around new : Open A T) (x : Option T) → all ≡ os ++ around ∷ [] →
      o.rest ≡ [] → x ≡ o.close o.done → new ≡ with_one around x →
      closed_all result os (closed result new) ≡ closed_all result all (closed result o)
  left os all o around new x e r h n =
      ap (λ z. closed_all result os (closed result z)) n
      ∙ ap (λ z. closed_all result os (closed result (with_one around z))) (h ∙ sym (all_gone o r))
      ∙ sym (innermost os around (closed result o))
      ∙ ap (λ z. closed_all result z (closed result o)) (sym e)

module _ {A T : Type 0} (count : Tree A → ℕ) where
  steps-innermost : (os : List (Open A T)) (o : Open A T) →
      steps_left count (os ++ o ∷ []) ≡ steps_left count os + steps_in count o
  steps-innermost [] o = omega arith
  steps-innermost (p ∷ os) o = omega (arith, steps-innermost os o)

  pub steps_entered : (os all : List (Open A T)) (o n inner : Open A T) (t : Tree A) → all ≡ os ++ n ∷ [] →
      o.rest ≡ t ∷ n.rest → total (map count inner.rest) + 2 ≤ count t →
      steps_left count all + steps_in count inner < steps_left count os + steps_in count o
  steps_entered os all o n inner t e r h =
      omega (arith, ap (steps_left count) e, steps-innermost os n, ap (λ z. total (map count z)) r, h)

  pub steps_taken : (os : List (Open A T)) (o new : Open A T) (t : Tree A)
      → o.rest ≡ t ∷ new.rest → 1 ≤ count t →
      steps_left count os + steps_in count new < steps_left count os + steps_in count o
  steps_taken os o new t r h = omega (arith, ap (λ z. total (map count z)) r, h)

  pub steps_back : (os all : List (Open A T)) (o around new : Open A T) → all ≡ os ++ around ∷ [] →
      new.rest ≡ around.rest → steps_left count os + steps_in count new
      < steps_left count all + steps_in count o
  steps_back os all o around new e r =
      omega (arith, ap (steps_left count) e, steps-innermost os around, ap (λ z. total (map count z)) r)
