-- Lists whose first token is that of the opened list.
use Rattle.std.specs.Prelude.{◌≡◌, ⊤}
use Rattle.wax_token.specs.Syntax.{Trees, none, more}
use Rattle.wax_facts.specs.Prefix.{opened}

-- if there is only one token, opening it changes nothing
abbrev pub IsOpened : {A : Type 0} → Trees A → Type 0
IsOpened none = ⊤
IsOpened (more t none) = opened t ≡ more t none
IsOpened (more t (more u us)) = ⊤
