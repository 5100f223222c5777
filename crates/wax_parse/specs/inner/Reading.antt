-- What a part of the expression is read as. What the parser's functions answer, and no part of the language's
-- definition.
use Rattle.wax_query.specs.declared.diagnostics.Refusal.{Refusal}
use Rattle.wax_query.specs.declared.diagnostics.Refusal.TheVariants.{Refused, Memory}
use Rattle.std.specs.Prelude.{chars, ◌≡◌, ◌≤◌, ◌<◌, length, Bool, true, false, ℕ, List, [], ◌∷◌, ◌++◌, codes}
use Rattle.wax_token.specs.Syntax.{Tree, Trees, more}
use Rattle.wax_token.specs.Reads.{Span, Place, utf8_len, Around, Past, IsEnd, nesting, deepest, ReadsToken}
use Rattle.wax_token.specs.Reads.{ReadsTokens, ReadsGlob, ReadsBranches}
use Rattle.wax_parse.specs.{declared.parse.flags.Cursor.Cursor, declared.parse.surroundings.Scope.Scope}
use Rattle.wax_parse.specs.inner.Parser.{around_of, place}

abbrev pub is_nil : {A : Type 0} → List A → Bool
is_nil [] = true
is_nil (x ∷ xs) = false

abbrev pub onto : {A : Type 0} → List (Tree A) → Trees A → Trees A
onto [] us = us
onto (t ∷ ts) us = more t (onto ts us)

-- ---- readings from a place, in an expression of so many bytes, where globs nest at most so deep
abbrev pub TokenFrom : ℕ → Around → ℕ → Bool → Place → Tree Span → Place → Type 0
TokenFrom size around depth first p t q = ReadsToken size t around first p q × (nesting t ≤ depth)

abbrev pub TokensFrom : ℕ → Around → ℕ → Bool → Place → Trees Span → Place → Type 0
TokensFrom size around depth first p ts q = ReadsTokens size ts around first p q × IsEnd around q
    × (deepest ts ≤ depth)

abbrev pub GlobFrom : ℕ → Around → ℕ → Place → Tree Span → Place → Type 0
GlobFrom size around depth p t q = ReadsGlob size t around p q × (nesting t ≤ depth)

-- the branches of an alternation, and its closing brace
abbrev pub BranchesFrom : ℕ → ℕ → Place → Trees Span → Place → Type 0
BranchesFrom size depth p ts q = (k : Place) × ReadsBranches size ts p k × Past (codes "}") k q
    × (deepest ts ≤ depth)

-- ---- what there is to read
-- q is a suffix of p
abbrev pub HasSuffix : List ℕ → List ℕ → Type 0
HasSuffix p q = (x : List ℕ) × (p ≡ x ++ q)

-- and not all of it
abbrev pub HasProperSuffix : List ℕ → List ℕ → Type 0
HasProperSuffix p q = (x : List ℕ) × (p ≡ x ++ q) × (0 < length x)

-- a refusal for this reason
abbrev pub IsRefusal : {E : Type 0} → (E → Type 0) → Refusal E → Type 0
IsRefusal Reason (Refused e) = Reason e
IsRefusal Reason Memory = ⊥

-- it can be read, and as nothing else
abbrev pub Sole : {A : Type 0} → (A → Place → Type 0) → A → Place → Type 0
Sole {A} R t q = R t q × ((u : A) (r : Place) → R u r → (u ≡ t) × (r ≡ q))

-- nothing of the kind can be read
abbrev pub Unreadable : {A : Type 0} → (A → Place → Type 0) → Type 0
Unreadable {A} R = (u : A) (r : Place) → R u r → ⊥

-- of a row of tokens: whatever can be read begins with these, and goes on with what can be read afterwards
pub record Begun (R S : Trees Span → Place → Type 0) (ts : List (Tree Span)) : Type 0 where
  pub sound : (vs : Trees Span) (q : Place) → S vs q → R (onto ts vs) q
  pub complete : (us : Trees Span) (q : Place) → R us q → (vs : Trees Span) × (us ≡ onto ts vs) × S vs q

-- ---- from a cursor
abbrev pub GlobAt : Scope → Cursor → Tree Span → Place → Type 0
GlobAt scope from t q =
    GlobFrom (utf8_len (chars scope.expression.now)) (around_of scope.around) scope.depth (place from) t q

abbrev pub TokenAt : Scope → Bool → Cursor → Tree Span → Place → Type 0
TokenAt scope first from t q =
    TokenFrom (utf8_len (chars scope.expression.now)) (around_of scope.around) scope.depth first
    (place from) t q

abbrev pub BranchesAt : Scope → Cursor → Trees Span → Place → Type 0
BranchesAt scope from ts q =
    BranchesFrom (utf8_len (chars scope.expression.now)) scope.depth (place from) ts q

-- the cursor is within the expression
abbrev pub IsWithinScope : Scope → Cursor → Type 0
IsWithinScope scope from = HasSuffix (chars scope.expression.now) (chars from.rest.now)
