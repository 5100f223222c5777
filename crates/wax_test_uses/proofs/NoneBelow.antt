-- A glob that doesn't go on below a folder means no path of names below it.
use Rattle.std.specs.Str.{all_scalars}
use Rattle.std.proofs.Common.{◌≡◌, ◌≢◌, ◌↔◌, ◌++◌, ℕ, Bool, true, false, IsTrue, List, [], not, refl, sym}
use Rattle.std.proofs.Common.{◌∙◌, ap, subst, true≢false}
use Rattle.wax.specs.GlobView.{GlobView, IsMeant}
use Rattle.wax.specs.Matching.{AreNames, MeansBelow, folder_text, joined_names}

module _ (g : GlobView) (folder : List ℕ) where
  abbrev pub MeansNone : Type 0
  MeansNone = (names : List (List ℕ)) → AreNames names → names ≢ []
      → all_scalars (folder_text folder ++ joined_names names) ≡ true
      → IsMeant g (folder_text folder ++ joined_names names) → ⊥

  pub none_below : (b : Bool) → (IsTrue b ↔ MeansBelow g.tree folder) → IsTrue (not b) ↔ MeansNone
  none_below true h = ((λ t. absurd (true≢false (sym t))), (λ none. absurd (found none (h.0 refl))))
    where
      found : MeansNone → MeansBelow g.tree folder → ⊥
      found none (s, (path, (names, are, some, e), f), all, m) =
          let same = f ∙ ap (λ z. folder_text folder ++ z) e in
          none names are some (subst (λ z. all_scalars z ≡ true) same all) (subst (IsMeant g) same m)
  none_below false h = (
    (λ _ names are some all m. true≢false (sym (h.1 (
      folder_text folder ++ joined_names names,
      (joined_names names, (names, are, some, refl), refl),
      all,
      m,
    )))),
    (λ _. refl),
  )
