-- How meant texts begin and end.
use Rattle.std.proofs.Common.{◌≡◌, ℕ, zero, suc, ◌+◌, ◌-◌, ◌<◌, ◌≤◌, ◌⊎◌, Bool, true, false, List, [], ◌∷◌}
use Rattle.std.proofs.Common.{◌++◌, length, drop, get_or, Some, None, slice_get, chars, encode_utf8_all, refl}
use Rattle.std.proofs.Common.{sym, ◌∙◌, ap, subst, arith, append_assoc, append-nil, drop-cons}
use Rattle.std.proofs.{lemmas.List.drop_all, lemmas.Str.{encodes-chars, encodes-append}}
use Rattle.std.specs.Str.{IsUtf8}
use Rattle.wax_token.specs.{Meaning.{Means, MeansEach, MeansSome, SameText}, Reads.Span}
use Rattle.wax_token.specs.{Syntax.{Tree, tree_size, trees_size}, Words.trees}

pub same_text : (t s : List ℕ) → SameText false t s → s ≡ t
same_text [] [] h = refl
same_text [] (d ∷ s) h = absurd h
same_text (c ∷ t) [] h = absurd h
same_text (c ∷ t) (d ∷ s) h = λ i. sym h.0 i ∷ same_text t s h.1 i

-- the same of a flag and a text that are seen otherwise
pub as_seen : (b d : Bool) (t u s : List ℕ) → b ≡ d → u ≡ t → SameText b t s → SameText d u s
as_seen b d t u s e f h = subst (λ v. SameText d v s) (sym f) (subst (λ v. SameText v t s) e h)

same_some : (t u : Tree Span) → Some t ≡ Some u → t ≡ u
same_some t u e = cc

none_some : (u : Tree Span) → None ≡ Some u → ⊥
none_some u e = cc

-- a needle of one case stands for its own characters alone
pub plain_text : (held : Bool × List ℕ) (b : Bool) (t x : List ℕ) → (b, t) ≡ held → b ≡ false
    → SameText held.0 held.1 x → x ≡ t
plain_text held b t x e f h =
    same_text t x (as_seen b false t t x f refl (subst (λ v. SameText v.0 v.1 x) (sym e) h))

-- where the tokens mean a text, the last one means an end of it
pub last_meant : (ts : List (Tree Span)) (t : Tree Span) → slice_get ts (length ts - 1) ≡ Some t
    → (before after : Bool) (s : List ℕ) → MeansEach (trees ts) before after s →
    (b : Bool) × (a : Bool) × (x : List ℕ) × (y : List ℕ) × (s ≡ x ++ y) × Means t b a y
last_meant [] t e before after s h = absurd (none_some t e)
last_meant (u ∷ []) t e before after s h =
    (before, after, [], s, refl, subst (λ z. Means z before after s) (same_some u t e) h)
last_meant (u ∷ v ∷ vs) t e before after s h =
    let k : length (u ∷ v ∷ vs) - 1 ≡ suc (length (v ∷ vs) - 1) = omega arith in
    let r : (b : Bool) × (a : Bool) × (x : List ℕ) × (y : List ℕ) × (h.1 ≡ x ++ y) × Means t b a y =
    last_meant (v ∷ vs) t (ap (slice_get (u ∷ v ∷ vs)) (sym k) ∙ e) true after h.1 h.4 in
    (r.0, r.1, h.0 ++ r.2, r.3, h.2 ∙ ap (λ z. h.0 ++ z) r.4 ∙ sym (append_assoc h.0 r.2 r.3), r.5)

-- and the first one a beginning
pub first_meant : (ts : List (Tree Span)) (t : Tree Span) → slice_get ts 0 ≡ Some t
    → (after : Bool) (s : List ℕ) → MeansEach (trees ts) false after s →
    (a : Bool) × (x : List ℕ) × (y : List ℕ) × (s ≡ x ++ y) × Means t false a x
first_meant [] t e after s h = absurd (none_some t e)
first_meant (u ∷ []) t e after s h =
    (after, s, [], sym (append-nil s), subst (λ z. Means z false after s) (same_some u t e) h)
first_meant (u ∷ v ∷ vs) t e after s h =
    (true, h.0, h.1, h.2, subst (λ z. Means z false true h.0) (same_some u t e) h.3)

pub drop_here : (ts : List (Tree Span)) (i : ℕ) (t : Tree Span) → i < length ts → t ≡ get_or ts i t
    → drop i ts ≡ t ∷ drop (i + 1) ts
drop_here ts i t lt e =
    let n : suc i ≡ i + 1 = omega arith in
    drop-cons ts i t lt ∙ ap (λ z. z ∷ drop (suc i) ts) (sym e) ∙ ap (λ k. t ∷ drop k ts) n

-- of the branches, the first means the text, or a later one does
pub next_branch : (ts : List (Tree Span)) (i : ℕ) (t : Tree Span) → i < length ts → t ≡ get_or ts i t
    → (before after : Bool) (s : List ℕ)
    → MeansSome (trees (drop i ts)) before after s → Means t before after s
    ⊎ MeansSome (trees (drop (i + 1) ts)) before after s
next_branch ts i t lt e before after s h =
    subst (λ z. MeansSome (trees z) before after s) (drop_here ts i t lt e) h

pub no_branch : (ts : List (Tree Span)) (i : ℕ) → length ts ≤ i → (before after : Bool) (s : List ℕ)
    → MeansSome (trees (drop i ts)) before after s → ⊥
no_branch ts i le before after s h = subst (λ z. MeansSome (trees z) before after s) (drop_all i ts le) h

-- a token of a row is smaller than the row
pub read_size : (ts : List (Tree Span)) (i : ℕ) (t : Tree Span) → slice_get ts i ≡ Some t
    → tree_size t < trees_size (trees ts)
read_size [] i t e = absurd (none_some t e)
read_size (u ∷ ts) zero t e = let f : tree_size u ≡ tree_size t =
    ap tree_size (same_some u t e) in omega (arith, f)
read_size (u ∷ ts) (suc i) t e = omega (arith, read_size ts i t e)

-- the same of bytes
pub bytes_end : (text end x t : List ℕ) → IsUtf8 text → IsUtf8 end → chars end ≡ t → chars text ≡ x ++ t
    → text ≡ encode_utf8_all x ++ end
bytes_end text end x t u v e f =
    sym (encodes-chars text u) ∙ ap encode_utf8_all f ∙ encodes-append x t
    ∙ ap (λ z. encode_utf8_all x ++ z) (ap encode_utf8_all (sym e) ∙ encodes-chars end v)

pub bytes_begin : (text begin x t : List ℕ) → IsUtf8 text → IsUtf8 begin → chars begin ≡ t
    → chars text ≡ t ++ x → text ≡ begin ++ encode_utf8_all x
bytes_begin text begin x t u v e f =
    sym (encodes-chars text u) ∙ ap encode_utf8_all f ∙ encodes-append t x
    ∙ ap (λ z. z ++ encode_utf8_all x) (ap encode_utf8_all (sym e) ∙ encodes-chars begin v)

pub slash_end : (text x y : List ℕ) → IsUtf8 text → chars text ≡ x ++ y → y ≡ 47 ∷ []
    → text ≡ encode_utf8_all x ++ 47 ∷ []
unfolding lib.Utf8.encode
slash_end text x y u f e =
    sym (encodes-chars text u) ∙ ap encode_utf8_all (f ∙ ap (λ z. x ++ z) e) ∙ encodes-append x (47 ∷ [])

pub slash_begin : (text x y s : List ℕ) → IsUtf8 text → chars text ≡ x ++ y → x ≡ 47 ∷ s
    → text ≡ (47 ∷ []) ++ encode_utf8_all (s ++ y)
unfolding lib.Utf8.encode
slash_begin text x y s u f e =
    sym (encodes-chars text u) ∙ ap encode_utf8_all (f ∙ ap (λ z. z ++ y) e)
    ∙ encodes-append (47 ∷ []) (s ++ y)
