-- The texts of branches and of tokens one after another, token by token.
use Rattle.std.proofs.Common.{◌≡◌, ℕ, zero, suc, ◌+◌, ◌<◌, ◌≤◌, List, [], ◌∷◌, ◌++◌, length, take, drop}
use Rattle.std.proofs.Common.{get_or, refl, sym, ◌∙◌, ap, subst, arith, append-nil, drop-cons, chars, IsUtf8}
use Rattle.std.proofs.Common.{Option, Some, None, IfSome, false, encode_utf8, encode_utf8_all, String}
use Rattle.std.proofs.{Common.string_bytes, lemmas.List.drop_all}
use Rattle.std.proofs.lemmas.Str.{chars-append, chars-nil, chars_past_char, encodes-chars}
use Rattle.std.proofs.lemmas.Str.{IsUtf8-string_bytes}
use Rattle.std.specs.{List.repeat, Option.MatchOption}
use Rattle.wax_token.specs.{Meaning.Means, Syntax.{Tree, Trees, none, more}, Words.trees}
use Rattle.wax_facts.specs.InvariantText.{times, Text, TextOfAll, TextOfEach, Variant}
use Rattle.wax_facts.proofs.{TextSound.text_sound, TextUnique.text_unique}

pub drop_here : {A : Type 0} (ts : List A) (i : ℕ) (t : A) → i < length ts → t ≡ get_or ts i t
    → drop i ts ≡ t ∷ drop (i + 1) ts
drop_here ts i t lt e =
    let n : suc i ≡ i + 1 = omega arith in
    drop-cons ts i t lt ∙ ap (λ z. z ∷ drop (suc i) ts) (sym e) ∙ ap (λ k. t ∷ drop k ts) n

-- ---- branches
all_more : {A : Type 0} (t u : Tree A) (us : Trees A) (s : List ℕ) → Text u s → TextOfAll (more t us) s
    → TextOfAll (more t (more u us)) s
all_more t u none s k h = (h, k)
all_more t u (more v vs) s k h = (h.0, (k, h.1))

pub all_first : {A : Type 0} (t : Tree A) (ts : Trees A) (s : List ℕ) → TextOfAll (more t ts) s → Text t s
all_first t none s h = h
all_first t (more u us) s h = h.0

-- one more branch of the text
pub all_step : {A : Type 0} (t : Tree A) (us : List (Tree A)) (i : ℕ) (u : Tree A) (s : List ℕ)
    → i < length us → u ≡ get_or us i u → Text u s →
    TextOfAll (more t (trees (drop (i + 1) us))) s → TextOfAll (more t (trees (drop i us))) s
all_step t us i u s lt e k h =
    subst (λ z. TextOfAll (more t (trees z)) s) (sym (drop_here us i u lt e))
    (all_more t u (trees (drop (i + 1) us)) s k h)

-- if the first branch is checked apart from the others
pub all_kept : {A : Type 0} (ts : List (Tree A)) (t : Tree A) (us : List (Tree A)) (i : ℕ) (u : Tree A)
    (s : List ℕ) → ts ≡ t ∷ us →
    i < length us → u ≡ get_or us i u → Text u s →
    TextOfAll (trees (take 1 ts ++ drop (i + 1) us)) s → TextOfAll (trees (take 1 ts ++ drop i us)) s
all_kept ts t us i u s e lt at k =
    subst (λ z. TextOfAll (trees (take 1 z ++ drop (i + 1) us)) s
    → TextOfAll (trees (take 1 z ++ drop i us)) s) (sym e) (all_step t us i u s lt at k)

pub all_at : {A : Type 0} (t : Tree A) (us : List (Tree A)) (i : ℕ) (u : Tree A) → i < length us
    → u ≡ get_or us i u →
    (s : List ℕ) → TextOfAll (more t (trees us)) s → Text u s
all_at t [] i u lt e s h = absurd (omega (arith, lt))
all_at t (v ∷ us) zero u lt e s h = subst (λ z. Text z s) (sym e) (all_first v (trees us) s h.1)
all_at t (v ∷ us) (suc i) u lt e s h = all_at v us i u (omega (arith, lt)) e s h.1

-- two branches with two texts
pub all_same : {A : Type 0} (t : Tree A) (us : List (Tree A)) (i : ℕ) (u : Tree A) (x y s : List ℕ)
    → i < length us → u ≡ get_or us i u →
    Text t x → Text u y → TextOfAll (trees (t ∷ us)) s → y ≡ x
all_same t us i u x y s lt e h k m =
    text_unique u y s k (all_at t us i u lt e s m) ∙ text_unique t s x (all_first t (trees us) s m) h

pub bytes_same : {Z : Type 0} (s t : String Z) → chars (string_bytes s) ≡ chars (string_bytes t)
    → string_bytes s ≡ string_bytes t
bytes_same s t e =
    sym (encodes-chars (string_bytes s) (IsUtf8-string_bytes s)) ∙ ap encode_utf8_all e
    ∙ encodes-chars (string_bytes t) (IsUtf8-string_bytes t)

-- ---- tokens one after another
pub each_step : {A : Type 0} (ts : List (Tree A)) (i : ℕ) (u : Tree A) (x y : List ℕ) → i < length ts
    → u ≡ get_or ts i u → Text u x →
    TextOfEach (trees (drop (i + 1) ts)) y → TextOfEach (trees (drop i ts)) (x ++ y)
each_step ts i u x y lt e k h =
    subst (λ z. TextOfEach (trees z) (x ++ y)) (sym (drop_here ts i u lt e)) (x, y, refl, k, h)

pub each_at : {A : Type 0} (ts : List (Tree A)) (i : ℕ) (u : Tree A) → i < length ts → u ≡ get_or ts i u →
    (s : List ℕ) → TextOfEach (trees ts) s → (x : List ℕ) × Text u x
each_at [] i u lt e s h = absurd (omega (arith, lt))
each_at (v ∷ ts) zero u lt e s h = (h.0, subst (λ z. Text z h.0) (sym e) h.3)
each_at (v ∷ ts) (suc i) u lt e s h = each_at ts i u (omega (arith, lt)) e h.1 h.4

pub each_end : {A : Type 0} (ts : List (Tree A)) (i : ℕ) → length ts ≤ i → TextOfEach (trees (drop i ts)) []
each_end ts i le = subst (λ z. TextOfEach (trees z) []) (sym (drop_all i ts le)) refl

-- ---- copies
pub chars_repeat : (n : ℕ) (bs : List ℕ) → IsUtf8 bs → chars (repeat n bs) ≡ times n (chars bs)
chars_repeat zero bs u = chars-nil
chars_repeat (suc n) bs u = chars-append bs (repeat n bs) u ∙ ap (λ z. chars bs ++ z) (chars_repeat n bs u)

-- ---- what is known of a text that was found
pub only_text : {A X : Type 0} (t : Tree A) (f : X → List ℕ) (o : Option X)
    → MatchOption o (Variant t) (λ x. Text t (f x)) →
    IfSome o (λ x. (s : List ℕ) → Means t false false s → s ≡ f x)
only_text t f None h = tt
only_text t f (Some x) h = λ s m. text_sound t (f x) h false false s m

pub char_text : (c : ℕ) (bs : List ℕ) → IsUtf8 bs → bs ≡ encode_utf8 c → chars bs ≡ c ∷ []
char_text c bs u e = chars_past_char bs [] c u (e ∙ sym (append-nil (encode_utf8 c)))
    ∙ ap (λ z. c ∷ z) chars-nil

pub chars_slash : chars (47 ∷ []) ≡ 47 ∷ []
unfolding lib.Utf8.encode
chars_slash = chars_past_char (47 ∷ []) [] 47 (47 ∷ [], (refl, refl)) refl ∙ ap (λ z. 47 ∷ z) chars-nil

pub found_is : {X : Type 0} (o : Option X) (x : X) (P : Type 0) (Q : X → Type 0) → o ≡ Some x
    → MatchOption o P Q → Q x
found_is o x P Q e h = subst (λ z. MatchOption z P Q) e h

pub none_is : {X : Type 0} (o : Option X) (P : Type 0) (Q : X → Type 0) → o ≡ None → MatchOption o P Q → P
none_is o P Q e h = subst (λ z. MatchOption z P Q) e h

pub chars_pushed : (a b n : List ℕ) → IsUtf8 a → n ≡ a ++ b → chars n ≡ chars a ++ chars b
chars_pushed a b n u e = ap chars e ∙ chars-append a b u

pub chars_none : (bs : List ℕ) → bs ≡ [] → chars bs ≡ []
chars_none bs e = ap chars e ∙ chars-nil
