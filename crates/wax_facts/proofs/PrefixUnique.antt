-- A glob has at most one prefix.
use Rattle.std.proofs.Common.{List, Option, ap, inl, inr, sym, true, ℕ, ◌∙◌, ◌≡◌}
use Rattle.wax_token.specs.Syntax.{Tree, Trees, alternation, class, concatenation, leaf, literal, more, none}
use Rattle.wax_token.specs.Syntax.{one, repetition, separator, tree, zero_or_more}
use Rattle.wax_token.specs.Kinds.{is_tree_wildcard, is_separator}
use Rattle.wax_facts.specs.{InvariantText.Text, Prefix.{Cut, Prefix, PrefixOf, opened, or_nothing, taken}}
use Rattle.wax_facts.proofs.{TextUnique.text_unique, Truths.true_false}

-- a `**` has no invariant text
pub tree_text : {A : Type 0} (t : Tree A) (x : List ℕ) → is_tree_wildcard t ≡ true → Text t x → ⊥
tree_text (leaf a (literal i t)) x e h = true_false (sym e)
tree_text (leaf a (class n xs)) x e h = true_false (sym e)
tree_text (leaf a separator) x e h = true_false (sym e)
tree_text (leaf a one) x e h = h
tree_text (leaf a (zero_or_more v)) x e h = h
tree_text (leaf a (tree rooted)) x e h = h
tree_text (alternation a ts) x e h = true_false (sym e)
tree_text (concatenation a ts) x e h = true_false (sym e)
tree_text (repetition a t low high) x e h = true_false (sym e)

cut_unique : {A : Type 0} (ts : Trees A) → (c d : Option (ℕ × List ℕ)) → Cut ts c → Cut ts d → c ≡ d
cut_unique none c d h k = h ∙ sym k
cut_unique (more t ts) c d (inl h) (inl k) = h.1 ∙ sym k.1
cut_unique (more t ts) c d (inl h) (inr (inl k)) = true_false (sym h.0 ∙ k.0)
cut_unique (more t ts) c d (inl h) (inr (inr k)) = absurd (tree_text t k.0 h.0 k.2)
cut_unique (more t ts) c d (inr (inl h)) (inl k) = true_false (sym k.0 ∙ h.0)
cut_unique (more t ts) c d (inr (inl h)) (inr (inl k)) = h.2 ∙ sym k.2
cut_unique (more t ts) c d (inr (inl h)) (inr (inr k)) = absurd (h.1 k.0 k.2)
cut_unique (more t ts) c d (inr (inr h)) (inl k) = absurd (tree_text t h.0 k.0 h.2)
cut_unique (more t ts) c d (inr (inr h)) (inr (inl k)) = absurd (k.1 h.0 h.2)
cut_unique (more t ts) c d (inr (inr h)) (inr (inr k)) =
    h.4 ∙ ap (λ z. taken (is_separator t) z h.1) (text_unique t h.0 k.0 h.2 k.2)
    ∙ ap (taken (is_separator t) k.0) (cut_unique ts h.1 k.1 h.3 k.3) ∙ sym k.4

list_unique : {A : Type 0} (ts : Trees A) → (n m : ℕ) (p q : List ℕ) → PrefixOf ts n p
    → PrefixOf ts m q → (n ≡ m) × (p ≡ q)
list_unique ts n m p q (inl h) (inl k) = (h.1 ∙ sym k.1, h.2 ∙ sym k.2)
list_unique ts n m p q (inl h) (inr k) = absurd (k.0 h.0)
list_unique ts n m p q (inr h) (inl k) = absurd (h.0 k.0)
list_unique ts n m p q (inr h) (inr k) =
    let e : h.1.0 ≡ k.1.0 = cut_unique ts h.1.0 k.1.0 h.1.1 k.1.1 in
    (h.1.2 ∙ ap (λ z. (or_nothing z).0) e ∙ sym k.1.2, h.1.3 ∙ ap (λ z. (or_nothing z).1) e ∙ sym k.1.3)

pub prefix_unique : {A : Type 0} (t : Tree A) → (n m : ℕ) (p q : List ℕ) → Prefix t n p
    → Prefix t m q → (n ≡ m) × (p ≡ q)
prefix_unique t n m p q h k = list_unique (opened t) n m p q h k
