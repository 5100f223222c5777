-- There is one chosen split.
use Rattle.std.proofs.Common.{◌≡◌, ℕ, ◌++◌, Bool, true, false, List, take, drop, sym, ◌∙◌, ap, subst, arith}
use Rattle.wax_token.specs.Syntax.{Tree, Trees, none, more}
use Rattle.wax_capture.specs.Captures.{Captured, FitsPiece, IsChosen, is_lazy, token_captures}
use Rattle.wax_lengths.specs.Prefers.{Prefers}

same_best : (lazy : Bool) (n m : ℕ) → Prefers lazy n m → Prefers lazy m n → n ≡ m
same_best true n m h g = omega (arith, h, g)
same_best false n m h g = omega (arith, h, g)

pub chosen_unique : {A : Type 0} (t : Tree A) (ts : Trees A) (before after : Bool) (s : List ℕ) (n m : ℕ)
    → IsChosen t ts before after s n → IsChosen t ts before after s m → n ≡ m
chosen_unique t ts before after s n m c d =
    let w : c.way ≡ d.way = omega (arith, c.first d.way m d.fits, d.first c.way n c.fits) in
    same_best (is_lazy t) n m (c.best m (subst (λ k. FitsPiece t ts before after s (k, m)) (sym w) d.fits))
    (d.best n (subst (λ k. FitsPiece t ts before after s (k, n)) w c.fits))

pub captured_unique : {A : Type 0} (ts : Trees A) (before after : Bool) (s : List ℕ) (cs ds : List (List ℕ))
    → Captured ts before after s cs → Captured ts before after s ds → cs ≡ ds
captured_unique none before after s cs ds h g = h.1 ∙ sym g.1
captured_unique (more t ts) before after s cs ds h g =
    let n : g.0 ≡ h.0 = chosen_unique t ts before after s g.0 h.0 g.1 h.1 in
    let others : h.2 ≡ g.2 = captured_unique ts true after (drop h.0 s) h.2 g.2 h.3
    (subst (λ k. Captured ts true after (drop k s) g.2) n g.3) in
    h.4 ∙ ap (λ z. token_captures t before (take h.0 s) ++ z) others
    ∙ ap (λ k. token_captures t before (take k s) ++ g.2) (sym n) ∙ sym g.4
