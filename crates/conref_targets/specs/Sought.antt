-- The reference of an element, as the code keeps it, is that of the definition.
use Rattle.std.specs.Prelude.{Option, Some, None, option_map, if◌then◌else◌}
use Rattle.std.specs.Option.{option_copied}
use Rattle.conref_spec.specs.Content as content
use Rattle.conref_spec.specs.Content.{has_reference}
use Rattle.conref_targets.specs.declared.reference.Sought.{Sought}

abbrev pub sought_shown : Sought → content.Sought
sought_shown sought =
    record { conref = option_copied sought.conref; conkeyref = option_copied sought.conkeyref }

abbrev pub sought_found : Option Sought → Option content.Sought
sought_found sought = option_map sought_shown sought

-- a reference that names something
abbrev pub if_reference : content.Sought → Option content.Sought
if_reference sought = if has_reference sought then Some sought else None
