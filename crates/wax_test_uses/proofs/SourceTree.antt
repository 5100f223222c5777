-- What the small tree shows, by the paths that it is built from.
use Rattle.std.proofs.Common.{◌≡◌, true, List, [], ◌∷◌, codes, ℕ, refl}
use lib.Utf8.{encode, encodes, scalars}
use Rattle.wax.specs.Walks.{IsPlain, end, is_plain, plain_of}
use Rattle.wax_test_uses.proofs.Planted.{HoldsAll, HoldsBelow}
use Rattle.wax_test_uses.specs.Sources.{file, source_items, src_items}

abbrev pub source_paths : List (List ℕ)
source_paths =
    codes "docs/x.md" ∷ codes "src/a.rs" ∷ codes "src/b.txt" ∷ codes "src/main.o" ∷ codes "src/main.rs"
    ∷ codes "src/net/tcp.rs" ∷ []

pub plain_name : (x : List ℕ) → scalars x ≡ true → encodes x ≡ x → is_plain x ≡ true → IsPlain x
plain_name x h e p = plain_of x (x, (h, e)) p

pub src_plain : IsPlain (codes "src")
unfolding encode
src_plain = plain_name (codes "src") refl refl refl

below_net : HoldsBelow source_paths (codes "src/net") (file (codes "tcp.rs") end)
unfolding encode
below_net = (plain_name (codes "tcp.rs") refl refl refl, tt)

below_src : HoldsBelow source_paths (codes "src") src_items
unfolding encode
below_src = (
  plain_name (codes "a.rs") refl refl refl,
  (
    plain_name (codes "b.txt") refl refl refl,
    (
      plain_name (codes "main.o") refl refl refl,
      (
        plain_name (codes "main.rs") refl refl refl,
        (plain_name (codes "net") refl refl refl, (refl, refl, below_net), tt),
      ),
    ),
  ),
)

pub source_holds : HoldsAll source_paths [] source_items
unfolding encode
source_holds = (
  refl,
  refl,
  (
    plain_name (codes "docs") refl refl refl,
    (refl, refl, (plain_name (codes "x.md") refl refl refl, tt)),
    (src_plain, (refl, refl, below_src), tt),
  ),
)
