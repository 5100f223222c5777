-- Which paths `src/*`, `**/b*`, `src/m*` and `src/main.rs` match.
use Rattle.std.proofs.Common.{◌≡◌, ◌≢◌, ◌∙◌, ◌++◌, ◌==◌, ◌&&◌, ℕ, Bool, true, false, List, [], ◌∷◌, codes, ap}
use Rattle.std.proofs.Common.{append_assoc, drop, if◌then◌else◌, inl, inr, refl, subst, sym}
use Rattle.std.proofs.lemmas.Bool.{eqb-true, false≢true}
use Rattle.std.specs.{Prelude.◌⊎◌, List.list_any}
use Rattle.wax.specs.Language.{HasNoSlash, Means, Span, Tree, is_one_of, means_test, means_tested}
use Rattle.wax.specs.Queries.{EndsWithSlash}
use Rattle.wax_test_uses.proofs.{Expressions.{in_src, main_rs, with_b, with_m}, OneComponents.has_no_slash}
use Rattle.wax_test_uses.proofs.Pictures.{same_self, same_to}

-- ---- tests

test_true : (t : Tree Span) (s : List ℕ) → Means t false false s → means_test t false false s ≡ true
test_true t s h = (means_tested t false false s).1 h

untrue : (b : Bool) → (b ≡ true → ⊥) → b ≡ false
untrue true h = absurd (h refl)
untrue false h = refl

test_false : (t : Tree Span) (s : List ℕ) → (Means t false false s → ⊥) → means_test t false false s ≡ false
test_false t s h = untrue (means_test t false false s) (λ e. h ((means_tested t false false s).0 e))

-- ---- texts

not_slash : (c : ℕ) → c ≢ 47 → (c == 47) ≡ false
not_slash c n = untrue (c == 47) (λ e. n (eqb-true c 47 e))

flat : (s : List ℕ) → HasNoSlash s → list_any (λ c. c == 47) s ≡ false
flat [] h = refl
flat (c ∷ s) h = rw (not_slash c h.0, flat s h.1)

-- the text begins with these characters
abbrev begins : List ℕ → List ℕ → Bool
begins [] s = true
begins (c ∷ t) [] = false
begins (c ∷ t) (d ∷ s) = (c == d) && begins t s

-- ---- `src/*`

-- the piece after `src/`
module _ (s : List ℕ) (h : Means in_src false false s) where
  stem : List ℕ
  stem = h.4.1

  stem_is : s ≡ codes "src/" ++ h.4.1
  stem_is =
      let x : h.0 ≡ codes "src" = same_to (codes "src") h.0 h.3 in
      let y : h.1 ≡ codes "/" ++ h.4.1 = h.4.2 ∙ ap (λ v. v ++ h.4.1) h.4.3 in cc

  in_src_so : begins (codes "src/") s ≡ true
  in_src_so = ap (begins (codes "src/")) stem_is

  in_src_flat : list_any (λ c. c == 47) (drop 4 s) ≡ false
  in_src_flat = ap (λ v. list_any (λ c. c == 47) (drop 4 v)) stem_is ∙ flat h.4.1 h.4.4

in_src_if : (stem : List ℕ) → HasNoSlash stem → Means in_src false false (codes "src/" ++ stem)
in_src_if stem n =
    (codes "src", codes "/" ++ stem, refl, same_self (codes "src"), (codes "/", stem, refl, refl, n))

-- ---- `src/m*` and `src/main.rs`

with_m_so : (s : List ℕ) → Means with_m false false s → begins (codes "src/m") s ≡ true
with_m_so s h =
    let x : h.0 ≡ codes "src" = same_to (codes "src") h.0 h.3 in
    let m : h.4.4.0 ≡ codes "m" = same_to (codes "m") h.4.4.0 h.4.4.3 in
    let z : h.4.1 ≡ codes "m" ++ h.4.4.1 = h.4.4.2 ∙ ap (λ v. v ++ h.4.4.1) m in
    let y : h.1 ≡ codes "/" ++ h.4.1 = h.4.2 ∙ ap (λ v. v ++ h.4.1) h.4.3 in
    let e : s ≡ codes "src/m" ++ h.4.4.1 = cc in ap (begins (codes "src/m")) e

with_m_if : (stem : List ℕ) → HasNoSlash stem → Means with_m false false (codes "src/m" ++ stem)
with_m_if stem n = (
  codes "src",
  codes "/m" ++ stem,
  refl,
  same_self (codes "src"),
  (codes "/", codes "m" ++ stem, refl, refl, (codes "m", stem, refl, same_self (codes "m"), n)),
)

main_rs_so : (s : List ℕ) → Means main_rs false false s → begins (codes "src/main.rs") s ≡ true
main_rs_so s h =
    let x : h.0 ≡ codes "src" = same_to (codes "src") h.0 h.3 in
    let z : h.4.1 ≡ codes "main.rs" = same_to (codes "main.rs") h.4.1 h.4.4 in
    let y : h.1 ≡ codes "/" ++ h.4.1 = h.4.2 ∙ ap (λ v. v ++ h.4.1) h.4.3 in
    let e : s ≡ codes "src/main.rs" = cc in ap (begins (codes "src/main.rs")) e

main_rs_if : Means main_rs false false (codes "src/main.rs")
main_rs_if = (
  codes "src",
  codes "/main.rs",
  refl,
  same_self (codes "src"),
  (codes "/", codes "main.rs", refl, refl, same_self (codes "main.rs")),
)

-- ---- `**/b*`

-- what comes after the last `/`, or `was` if there is none
abbrev after_slash : List ℕ → List ℕ → List ℕ
after_slash was [] = was
after_slash was (c ∷ s) = after_slash (if c == 47 then s else was) s

without : (was s : List ℕ) → HasNoSlash s → after_slash was s ≡ was
without was [] h = refl
without was (c ∷ s) h =
    subst (λ b. after_slash (if b then s else was) s ≡ was) (sym (not_slash c h.0)) (without was s h.1)

within : (was t s : List ℕ) → HasNoSlash s → after_slash was (t ++ 47 ∷ s) ≡ s
within was [] s h = without s s h
within was (c ∷ t) s h = within (if c == 47 then t ++ 47 ∷ s else was) t s h

-- what comes after the last `/`, or all
abbrev last_name : List ℕ → List ℕ
last_name s = after_slash s s

with_b_so : (s : List ℕ) → Means with_b false false s → begins (codes "b") (last_name s) ≡ true
with_b_so s h =
    let x : h.4.0 ≡ codes "b" = same_to (codes "b") h.4.0 h.4.3 in
    let y : h.1 ≡ 98 ∷ h.4.1 = h.4.2 ∙ ap (λ v. v ++ h.4.1) x in
    let n : HasNoSlash (98 ∷ h.4.1) = ((λ e. (cc)), h.4.4) in
    let e : last_name s ≡ 98 ∷ h.4.1 =
    subst (λ v. last_name v ≡ 98 ∷ h.4.1) (sym (h.2 ∙ ap (λ v. h.0 ++ v) y)) (named h.0 h.4.1 n h.3) in
    ap (begins (codes "b")) e where
      named : (t stem : List ℕ) → HasNoSlash (98 ∷ stem) → (t ≡ []) ⊎ EndsWithSlash t
          → last_name (t ++ 98 ∷ stem) ≡ 98 ∷ stem
      named t stem n (inl e) =
          subst (λ v. last_name (v ++ 98 ∷ stem) ≡ 98 ∷ stem) (sym e) (without (98 ∷ stem) (98 ∷ stem) n)
      named t stem n (inr e) =
          let f : t ++ 98 ∷ stem ≡ e.0 ++ 47 ∷ 98 ∷ stem =
          ap (λ v. v ++ 98 ∷ stem) e.1 ∙ append_assoc e.0 (47 ∷ []) (98 ∷ stem) in
          subst (λ v. last_name v ≡ 98 ∷ stem) (sym f) (within (e.0 ++ 47 ∷ 98 ∷ stem) e.0 (98 ∷ stem) n)

b_in_src : Means with_b false false (codes "src/b.txt")
b_in_src = (
  codes "src/",
  codes "b.txt",
  refl,
  inr (codes "src", refl),
  (codes "b", codes ".txt", refl, same_self (codes "b"), has_no_slash (codes ".txt") refl),
)

-- ---- each path

pub in_net : means_test in_src false false (codes "src/net/tcp.rs") ≡ false
in_net = test_false in_src (codes "src/net/tcp.rs")
    (λ h. false≢true (sym (in_src_flat (codes "src/net/tcp.rs") h)))

pub at_start : means_test in_src false false [] ≡ false
at_start = test_false in_src [] (λ h. false≢true (in_src_so [] h))

pub at_docs : means_test in_src false false (codes "docs") ≡ false
at_docs = test_false in_src (codes "docs") (λ h. false≢true (in_src_so (codes "docs") h))

pub at_x : means_test in_src false false (codes "docs/x.md") ≡ false
at_x = test_false in_src (codes "docs/x.md") (λ h. false≢true (in_src_so (codes "docs/x.md") h))

pub at_src : means_test in_src false false (codes "src") ≡ false
at_src = test_false in_src (codes "src") (λ h. false≢true (in_src_so (codes "src") h))

-- a file in `src`
pub in_src_file : (name : List ℕ) → list_any (is_one_of (47 ∷ 92 ∷ [])) name ≡ false
    → means_test in_src false false (codes "src/" ++ name) ≡ true
in_src_file name h = test_true in_src (codes "src/" ++ name) (in_src_if name (has_no_slash name h))

pub not_b : (s : List ℕ) → begins (codes "b") (last_name s) ≡ false → means_test with_b false false s ≡ false
not_b s f = test_false with_b s (λ h. false≢true (sym f ∙ with_b_so s h))

pub not_m : (s : List ℕ) → begins (codes "src/m") s ≡ false → means_test with_m false false s ≡ false
not_m s f = test_false with_m s (λ h. false≢true (sym f ∙ with_m_so s h))

pub not_main : (s : List ℕ) → begins (codes "src/main.rs") s ≡ false
    → means_test main_rs false false s ≡ false
not_main s f = test_false main_rs s (λ h. false≢true (sym f ∙ main_rs_so s h))

pub b_yes : means_test with_b false false (codes "src/b.txt") ≡ true
b_yes = test_true with_b (codes "src/b.txt") b_in_src

pub m_yes : (name : List ℕ) → list_any (is_one_of (47 ∷ 92 ∷ [])) name ≡ false
    → means_test with_m false false (codes "src/m" ++ name) ≡ true
m_yes name h = test_true with_m (codes "src/m" ++ name) (with_m_if name (has_no_slash name h))

pub main_yes : means_test main_rs false false (codes "src/main.rs") ≡ true
main_yes = test_true main_rs (codes "src/main.rs") main_rs_if
