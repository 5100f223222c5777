-- Tokens that are moved, the last one first.
use Rattle.std.proofs.Common.{◌≡◌, ℕ, ◌+◌, ◌<◌, ◌≤◌, List, [], ◌∷◌, ◌++◌, map, reverse, refl, sym, ◌∙◌, ap}
use Rattle.std.proofs.{Common.arith, lemmas.List.reverse-append}
use Rattle.wax_token.specs.{Reads.Span, Syntax.{Tree, more, tree_size, trees_size}, Words.trees}
use Rattle.wax_rule.specs.Shifted.{shifted_tree, shifted_each}

size_pushed : {A : Type 0} (ts : List (Tree A)) (t : Tree A)
    → trees_size (trees (ts ++ t ∷ [])) ≡ trees_size (trees ts) + tree_size t + 1
size_pushed [] t = omega arith
size_pushed (u ∷ ts) t = omega (arith, size_pushed ts t)

pub popped_smaller : {A : Type 0} (old new : List (Tree A)) (t : Tree A) (n : ℕ) → old ≡ new ++ t ∷ []
    → trees_size (trees old) ≤ n →
    (tree_size t < n) × (trees_size (trees new) ≤ n)
popped_smaller old new t n e le =
    let k : trees_size (trees old) ≡ trees_size (trees new) + tree_size t + 1 =
    ap (λ z. trees_size (trees z)) e ∙ size_pushed new t in
    (omega (arith, k, le), omega (arith, k, le))

map_pushed : {A B : Type 0} (f : A → B) (xs : List A) (x : A) (zs : List B)
    → map f (xs ++ x ∷ []) ++ zs ≡ map f xs ++ (f x ∷ zs)
map_pushed f [] x zs = refl
map_pushed f (y ∷ xs) x zs = ap (λ z. f y ∷ z) (map_pushed f xs x zs)

-- one more is moved
pub shifted_step : {A B : Type 0} (f : A → B) (old new : List A) (x : A) (done grown : List B) (y : B)
    (all : List B) → old ≡ new ++ x ∷ [] → grown ≡ done ++ y ∷ [] → y ≡ f x →
    map f old ++ reverse done ≡ all → map f new ++ reverse grown ≡ all
shifted_step f old new x done grown y all e g h k =
    ap (λ z. map f new ++ z) (ap reverse g ∙ reverse-append done (y ∷ []) ∙ ap (λ z. z ∷ reverse done) h)
    ∙ sym (map_pushed f new x (reverse done)) ∙ ap (λ z. map f z ++ reverse done) (sym e) ∙ k

pub each_shifted : (k : ℕ) (ts : List (Tree Span))
    → trees (map (shifted_tree k) ts) ≡ shifted_each k (trees ts)
each_shifted k [] = refl
each_shifted k (t ∷ ts) = ap (λ z. more (shifted_tree k t) z) (each_shifted k ts)
