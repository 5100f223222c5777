-- Where a build was refused.
use Rattle.std.specs.Prelude.{List, [], ◌∷◌, Option, Some, None, codes}
use Rattle.wax_query.specs.Labels.{Label, all_labels}
use Rattle.wax_rule.specs.declared.error.build_error.BuildError.{BuildError}
use Rattle.wax_rule.specs.declared.error.build_error.BuildError.TheVariants.{Parse, Rule, Compile, Memory}

-- what is printed of the place, and its span
abbrev pub location_of : BuildError → Option Label
location_of (Parse place) = Some (codes "unexpected expression", place)
location_of (Rule error) = Some (error.location.label, error.location.span)
location_of (Compile error) = None
location_of Memory = None

-- labels with their places: of a broken rule its place first, then those that explain it
abbrev pub error_labels : BuildError → List Label
error_labels (Parse place) = (codes "unexpected expression", place) ∷ []
error_labels (Rule error) = all_labels error.location
error_labels (Compile error) = []
error_labels Memory = []
