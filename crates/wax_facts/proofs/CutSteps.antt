-- The cut of a list, token by token.
use Rattle.std.proofs.Common.{◌≡◌, ℕ, suc, ◌+◌, true, false, List, [], ◌++◌, Option, Some, None, refl, sym}
use Rattle.std.proofs.Common.{◌∙◌, ap, subst, inl, inr, arith, append_assoc, append-nil}
use Rattle.wax_token.specs.{Syntax.{Tree, Trees, none, more}, Kinds.{is_tree_wildcard, is_separator}}
use Rattle.wax_facts.specs.{InvariantText.{Text, Variant}, Prefix.{taken, Cut, CutBefore, or_nothing}}

-- the cut of all, where n tokens are taken, their last `/` is followed by q, and what is left is cut so
abbrev pub resumed : Option (ℕ × List ℕ) → ℕ → List ℕ → Option (ℕ × List ℕ) → Option (ℕ × List ℕ)
resumed last n q None = last
resumed last n q (Some cut) = Some (n + cut.0, (or_nothing last).1 ++ (q ++ cut.1))

-- n tokens are taken, of which m up to the last `/`, with the text p, and after it the text q
abbrev pub Taken : {A : Type 0} → Trees A → Trees A → ℕ → ℕ → List ℕ → List ℕ → Type 0
Taken all left n m p q = (last : Option (ℕ × List ℕ)) × (m ≡ (or_nothing last).0) × (p ≡ (or_nothing last).1)
    × ((later : Option (ℕ × List ℕ)) → Cut left later → Cut all (resumed last n q later))

some_pair : (m n : ℕ) (p q : List ℕ) → m ≡ n → p ≡ q
    → ◌≡◌ {A = Option (ℕ × List ℕ)} (Some (m, p)) (Some (n, q))
some_pair m n p q e f = λ i. Some (e i, f i)

pub taken_none : {A : Type 0} (all : Trees A) → Taken all all 0 0 [] []
taken_none all = (None, refl, refl, at)
  where
    at : (later : Option (ℕ × List ℕ)) → Cut all later → Cut all (resumed None 0 [] later)
    at None k = k
    at (Some cut) k = subst (Cut all) (some_pair cut.0 (0 + cut.0) cut.1 cut.1 (omega arith) refl) k

-- a token that is no `/`
pub taken_plain : {A : Type 0} (all : Trees A) (t : Tree A) (left : Trees A) (n m : ℕ) (p q x : List ℕ)
    → is_separator t ≡ false → Text t x →
    Taken all (more t left) n m p q → Taken all left (n + 1) m p (q ++ x)
taken_plain all t left n m p q x e h k = (
  k.0,
  k.1,
  k.2,
  λ later c.
      subst (Cut all) (same k.0 later)
      (k.3 (taken false x later) (inr (inr (x, later, h, c, ap (λ b. taken b x later) (sym e))))),
)
  where
    same : (last later : Option (ℕ × List ℕ)) → resumed last n q (taken false x later)
        ≡ resumed last (n + 1) (q ++ x) later
    same last None = refl
    same last (Some cut) = some_pair (n + suc cut.0) (n + 1 + cut.0) _ _ (omega arith)
        (ap (λ z. (or_nothing last).1 ++ z) (sym (append_assoc q x cut.1)))

-- a `/`
pub taken_slash : {A : Type 0} (all : Trees A) (t : Tree A) (left : Trees A) (n m : ℕ) (p q x : List ℕ)
    → is_separator t ≡ true → Text t x →
    Taken all (more t left) n m p q → Taken all left (n + 1) (n + 1) (p ++ (q ++ x)) []
taken_slash all t left n m p q x e h k = (
  Some (n + 1, (or_nothing k.0).1 ++ (q ++ x)),
  refl,
  ap (λ z. z ++ (q ++ x)) k.2,
  λ later c.
      subst (Cut all) (same k.0 later)
      (k.3 (taken true x later) (inr (inr (x, later, h, c, ap (λ b. taken b x later) (sym e))))),
)
  where
    same : (last later : Option (ℕ × List ℕ)) → resumed last n q (taken true x later)
        ≡ resumed (Some (n + 1, (or_nothing last).1 ++ (q ++ x))) (n + 1) [] later
    same last None = refl
    same last (Some cut) = some_pair (n + suc cut.0) (n + 1 + cut.0) _ _ (omega arith)
        (ap (λ z. (or_nothing last).1 ++ z) (sym (append_assoc q x cut.1))
        ∙ sym (append_assoc (or_nothing last).1 (q ++ x) cut.1))

-- no token is left, or the next one is a `**`
pub taken_all : {A : Type 0} (all left : Trees A) (n m : ℕ) (p q : List ℕ) → Cut left (Some (0, []))
    → Taken all left n m p q → CutBefore all n (p ++ q)
taken_all all left n m p q c k = (
  resumed k.0 n q (Some (0, [])),
  k.3 (Some (0, [])) c,
  omega arith,
  ap (λ z. z ++ q) k.2 ∙ ap (λ z. (or_nothing k.0).1 ++ z) (sym (append-nil q)),
)

pub cut_at_end : {A : Type 0} (ts : Trees A) → ts ≡ none → Cut ts (Some (0, []))
cut_at_end ts e = subst (λ z. Cut z (Some (0, []))) (sym e) refl

pub cut_at_tree : {A : Type 0} (t : Tree A) (ts : Trees A) → is_tree_wildcard t ≡ true
    → Cut (more t ts) (Some (0, []))
cut_at_tree t ts e = inl (e, refl)

-- the next token is not of one text
pub taken_back : {A : Type 0} (all : Trees A) (t : Tree A) (left : Trees A) (n m : ℕ) (p q : List ℕ)
    → is_tree_wildcard t ≡ false → Variant t →
    Taken all (more t left) n m p q → CutBefore all m p
taken_back all t left n m p q e v k = (k.0, k.3 None (inr (inl (e, v, refl))), k.1, k.2)

pub same_taken : {A : Type 0} (all left left' : Trees A) (n n' m m' : ℕ) (p p' q q' : List ℕ) → left ≡ left'
    → n ≡ n' → m ≡ m' → p ≡ p' → q ≡ q' →
    Taken all left n m p q → Taken all left' n' m' p' q'
same_taken all left left' n n' m m' p p' q q' e f g h i k =
    subst (λ z. Taken all z n' m' p' q')
    e (subst (λ z. Taken all left z m' p' q') f (subst (λ z. Taken all left n z p' q') g
    (subst (λ z. Taken all left n m z q') h (subst (λ z. Taken all left n m p z) i k))))
