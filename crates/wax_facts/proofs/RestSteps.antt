-- The rest of a glob by one step into its last sub-glob.
use Rattle.std.proofs.Common.{◌≡◌, ℕ, List, length, drop, min, Some, None, sym, ◌∙◌, ap}
use Rattle.wax_token.specs.{Reads.Span, Syntax.{Tree, Trees}, Words.{annotation_of, members, trees}}
use Rattle.wax_facts.specs.{Rest.{after, owner}, Orderly.Flat}
use Rattle.wax_facts.specs.inner.Bodies.{IsInside, AreRestTokens, inside, last_body}
use Rattle.wax_facts.proofs.Insides.{after_drop, drop_min, inside_body, last_flat, owner_of, owner_step}

some_same : {A : Type 0} {t u : A} → Some t ≡ Some u → t ≡ u
some_same e = cc

pub rest_entered : (t : Tree Span) (n : ℕ) (ts : Trees Span) (k : ℕ) (b : Tree Span) (us : List (Tree Span))
    (s : Span) → ts ≡ members t → IsInside ts n k → last_body ts ≡ Some b →
    AreRestTokens b k us s → AreRestTokens t n us s
rest_entered t n ts k b us s e i l h flat =
    let j : i.0 ≡ b = some_same (sym (inside_body ts n i.0 k i.1) ∙ l) in
    let m : inside (members t) n ≡ Some (b, k) = ap (λ z. inside z n) (sym e) ∙ i.1 ∙ (λ v. Some (j v, k)) in
    let o : owner t n ≡ owner b k = owner_step t flat n ∙ ap (owner_of (t, n)) m in
    let w : Flat b = last_flat t flat b (ap last_body (sym e) ∙ l) in
    ((h w).0 ∙ ap (λ z. after z.1 (members z.0)) (sym o), (h w).1 ∙ ap (λ z. annotation_of z.0) (sym o))

pub rest_stays : (t : Tree Span) (n : ℕ) (ts us : List (Tree Span)) (s : Span) → trees ts ≡ members t
    → inside (trees ts) n ≡ None → us ≡ drop (min n (length ts)) ts →
    s ≡ annotation_of t → AreRestTokens t n us s
rest_stays t n ts us s e i d f flat =
    let m : inside (members t) n ≡ None = ap (λ z. inside z n) (sym e) ∙ i in
    let o : owner t n ≡ (t, n) = owner_step t flat n ∙ ap (owner_of (t, n)) m in (
      ap trees (d ∙ drop_min n ts) ∙ sym (after_drop n ts) ∙ ap (after n) e
          ∙ ap (λ z. after z.1 (members z.0)) (sym o),
      f ∙ ap (λ z. annotation_of z.0) (sym o),
    )
