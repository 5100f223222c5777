-- The leading components of globs whose matches all begin with `/`.
use Rattle.std.specs.Prelude.{◌≡◌, true}
use Rattle.wax_exclude.specs.Leading.{leading, leading_of}
use Rattle.wax_facts.specs.Root.{root}
use Rattle.wax_query.specs.declared.query.when.When.TheVariants.{Always}
use Rattle.wax_token.specs.{Reads.Span, Syntax.Tree}

-- if each match of a glob begins with `/`, its leading components in a walk from the root are those in any
-- walk; so the root makes a difference only for globs that have other matches
abbrev pub LeadsFromRoot : Type 0
LeadsFromRoot = (t : Tree Span) → root t ≡ Always → leading_of true t ≡ leading t
