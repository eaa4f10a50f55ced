-- The types of an element that matter to its link, as the code has them.
use Rattle.std.specs.Prelude.{◌≡◌}
use Rattle.map_spec.specs.Elements.{has_types}
use Rattle.map_spec.specs.Written.{Element}
use Rattle.html_spec.specs.Anchors.{is_image, is_link, is_xref}
use Rattle.map_spec.specs.Places.{is_topic}
use Rattle.xref_links.specs.declared.types.Types.{Types}

pub record AreTypes (element : Element) (types : Types) : Type 0 where
  pub any : types.has_types ≡ has_types element
  pub topic : types.is_topic ≡ is_topic element
  pub image : types.is_image ≡ is_image element
  pub xref : types.is_xref ≡ is_xref element
  pub link : types.is_link ≡ is_link element
