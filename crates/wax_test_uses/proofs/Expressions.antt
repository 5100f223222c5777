-- What `src/*`, `**/b*`, `src/m*` and `src/main.rs` spell.
use Rattle.std.proofs.Common.{◌≡◌, ◌∙◌, ℕ, Bool, true, false, List, [], ◌∷◌, codes, ap, arith, inl, refl}
use Rattle.std.proofs.Common.{subst, sym}
use Rattle.std.specs.Str.{chars}
use Rattle.wax.specs.Language.{Eager, Flags, NoWildcardFollows, Past, Place, Reads, Span, Tree, concatenation}
use Rattle.wax.specs.Language.{group, is_one_of, leaf, literal, more, no_flags, none, separator, start}
use Rattle.wax.specs.{Language.{starts_with_one_of, tree, zero_or_more}, Patterns.Spells}

-- ---- places

-- a group of flags may begin here
abbrev begins_group : List ℕ → Bool
begins_group s = starts_with_one_of (codes "(") s

unflagged : (p m : Place) → begins_group p.rest ≡ false → Flags p m → m ≡ p
unflagged p m h no_flags = refl
unflagged p m h (group b bs n past flags) =
    let e : begins_group p.rest ≡ true = ap begins_group past.0 in
    let k : true ≡ false = sym e ∙ h in cc

abbrev begins_tree : List ℕ → Bool
begins_tree [] = false
begins_tree (c ∷ []) = false
begins_tree (c ∷ d ∷ s) = is_one_of (codes "*") c

-- no `**` comes here
no_tree : (p m n : Place) → Flags p m → Past (codes "**") m n → begins_group p.rest ≡ false
    → begins_tree p.rest ≡ false → ⊥
no_tree p m n flags past g h =
    let e : m ≡ p = unflagged p m g flags in
    let k : begins_tree p.rest ≡ true = subst (λ q. begins_tree q.rest ≡ true) e (ap begins_tree past.0) in
    let i : true ≡ false = sym k ∙ h in cc

no_wildcard : (p : Place) → begins_group p.rest ≡ false → starts_with_one_of (codes "*$") p.rest ≡ false
    → NoWildcardFollows p
no_wildcard p g h m flags =
    subst (λ n. starts_with_one_of (codes "*$") n.rest ≡ false) (sym (unflagged p m g flags)) h

shorter : {b : ℕ} {cs : List ℕ} → [] ≡ b ∷ cs → ⊥
shorter e = cc

longer : {b : ℕ} {cs : List ℕ} → b ∷ cs ≡ [] → ⊥
longer e = cc

-- ---- trees

abbrev pub slash_at : ℕ → Tree Span
slash_at n = leaf (n, 1) separator

abbrev pub star_at : ℕ → Tree Span
star_at n = leaf (n, 1) (zero_or_more Eager)

abbrev pub text_at : ℕ → ℕ → List ℕ → Tree Span
text_at n m s = leaf (n, m) (literal false s)

-- `src/*`
abbrev pub in_src : Tree Span
in_src = concatenation (0, 5) (more (text_at 0 3 (codes "src")) (more (slash_at 3) (more (star_at 4) none)))

in_src_read : Reads (codes "src/*") in_src
in_src_read = (
  omega arith,
  start [],
  (
    shorter,
    (
      start (codes "/*"),
      (start (codes "src/*"), no_flags, (refl, (longer, refl), (refl, refl), refl), (refl, refl)),
      (
        start (codes "*"),
        (
          start (codes "/*"),
          no_flags,
          ((refl, refl), λ r f. no_tree (start (codes "*")) f.0 f.1 f.2 f.3 refl refl),
          (refl, refl),
        ),
        (
          start [],
          (start (codes "*"), no_flags, ((refl, refl), no_wildcard (start []) refl refl), (refl, refl)),
          refl,
        ),
      ),
    ),
    (refl, refl),
    refl,
  ),
)

-- `**/b*`
abbrev pub with_b : Tree Span
with_b =
    concatenation (0, 5)
    (more (leaf (0, 3) (tree false)) (more (text_at 3 1 (codes "b")) (more (star_at 4) none)))

with_b_read : Reads (codes "**/b*") with_b
with_b_read = (
  omega arith,
  start [],
  (
    shorter,
    (
      start (codes "b*"),
      (
        start (codes "**/b*"),
        no_flags,
        (refl, start (codes "/b*"), (refl, refl), inl (start (codes "/b*"), no_flags, (refl, refl))),
        (refl, refl),
      ),
      (
        start (codes "*"),
        (start (codes "b*"), no_flags, (refl, (longer, refl), (refl, refl), refl), (refl, refl)),
        (
          start [],
          (start (codes "*"), no_flags, ((refl, refl), no_wildcard (start []) refl refl), (refl, refl)),
          refl,
        ),
      ),
    ),
    (refl, refl),
    refl,
  ),
)

-- `src/m*`
abbrev pub with_m : Tree Span
with_m =
    concatenation (0, 6)
    (more (text_at 0 3 (codes "src"))
    (more (slash_at 3) (more (text_at 4 1 (codes "m")) (more (star_at 5) none))))

with_m_read : Reads (codes "src/m*") with_m
with_m_read = (
  omega arith,
  start [],
  (
    shorter,
    (
      start (codes "/m*"),
      (start (codes "src/m*"), no_flags, (refl, (longer, refl), (refl, refl), refl), (refl, refl)),
      (
        start (codes "m*"),
        (
          start (codes "/m*"),
          no_flags,
          ((refl, refl), λ r f. no_tree (start (codes "m*")) f.0 f.1 f.2 f.3 refl refl),
          (refl, refl),
        ),
        (
          start (codes "*"),
          (start (codes "m*"), no_flags, (refl, (longer, refl), (refl, refl), refl), (refl, refl)),
          (
            start [],
            (start (codes "*"), no_flags, ((refl, refl), no_wildcard (start []) refl refl), (refl, refl)),
            refl,
          ),
        ),
      ),
    ),
    (refl, refl),
    refl,
  ),
)

-- `src/main.rs`
abbrev pub main_rs : Tree Span
main_rs =
    concatenation (0, 11)
    (more (text_at 0 3 (codes "src")) (more (slash_at 3) (more (text_at 4 7 (codes "main.rs")) none)))

main_rs_read : Reads (codes "src/main.rs") main_rs
main_rs_read = (
  omega arith,
  start [],
  (
    shorter,
    (
      start (codes "/main.rs"),
      (start (codes "src/main.rs"), no_flags, (refl, (longer, refl), (refl, refl), refl), (refl, refl)),
      (
        start (codes "main.rs"),
        (
          start (codes "/main.rs"),
          no_flags,
          ((refl, refl), λ r f. no_tree (start (codes "main.rs")) f.0 f.1 f.2 f.3 refl refl),
          (refl, refl),
        ),
        (
          start [],
          (start (codes "main.rs"), no_flags, (refl, (longer, refl), (refl, refl), tt), (refl, refl)),
          refl,
        ),
      ),
    ),
    (refl, refl),
    refl,
  ),
)

-- ---- what each expression spells

pub in_src_spelled : Spells (chars (codes "src/*")) in_src
unfolding chars
in_src_spelled = (in_src_read, refl)

pub with_b_spelled : Spells (chars (codes "**/b*")) with_b
unfolding chars
with_b_spelled = (with_b_read, refl)

pub with_m_spelled : Spells (chars (codes "src/m*")) with_m
unfolding chars
with_m_spelled = (with_m_read, refl)

pub main_rs_spelled : Spells (chars (codes "src/main.rs")) main_rs
unfolding chars
main_rs_spelled = (main_rs_read, refl)
