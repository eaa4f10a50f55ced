-- What the forms in memory hold, and whether their next call fails.
use Rattle.std.specs.Prelude.{◌==◌, ◌&&◌, ◌||◌, ◌≤◌, ℕ, Bool, List, [], ◌∷◌, Some, ⊤, length, drop, map, max, nat_lt}
use Rattle.dita_doc.specs.Bytes.{Bytes}
use Rattle.dita_outside.specs.Calls.{Failing, calls_failing, is_listed}
use Rattle.dita_outside.specs.Links.{DoorTold, LinkTold, Links, Messages}
use Rattle.dita_outside.specs.Pages.{Pages}
use Rattle.dita_outside.specs.declared.mem_door.MemDoor.{MemDoor}
use Rattle.dita_outside.specs.declared.mem_link.MemLink.{MemLink}
use Rattle.dita_outside.specs.declared.mem_link.SureLink.{SureLink}
use Rattle.dita_outside.specs.declared.source.MemSource.{MemSource}
use Rattle.dita_outside.specs.declared.source.SureSource.{SureSource}
use Rattle.dita_outside.specs.declared.sink.MemSink.{MemSink}
use Rattle.dita_outside.specs.declared.sink.SureSink.{SureSink}
use Rattle.dita_outside.specs.declared.outlet.MemOutlet.{MemOutlet}
use Rattle.dita_outside.specs.declared.outlet.SureOutlet.{SureOutlet}

abbrev pub source_bytes : MemSource → Bytes
source_bytes source = drop source.place source.bytes

abbrev pub source_failing : MemSource → Failing
source_failing source = calls_failing source.calls

-- the sizes of the next reads
abbrev pub source_sizes : MemSource → List ℕ
source_sizes source = source.sizes.items

-- A read gives at most as many bytes as the next size says, where a size of 0 counts as 1. Without a size there is no
-- limit.
abbrev pub IsWithin : List ℕ → ℕ → Type 0
IsWithin [] count = ⊤
IsWithin (size ∷ sizes) count = count ≤ max size 1

abbrev pub sure_source_bytes : SureSource → Bytes
sure_source_bytes source = drop source.place source.bytes

abbrev pub sink_bytes : MemSink → Bytes
sink_bytes sink = sink.content

abbrev pub sink_failing : MemSink → Failing
sink_failing sink = calls_failing sink.calls

-- how many bytes more it takes
abbrev pub sink_room : MemSink → ℕ
sink_room sink = sink.room

-- it fails at a call that is listed, and if no room is left for bytes
abbrev pub sink_fails : MemSink → Bytes → Bool
sink_fails sink bytes = is_listed (sink_failing sink) || ((sink_room sink == 0) && nat_lt 0 (length bytes))

abbrev pub sure_sink_bytes : SureSink → Bytes
sure_sink_bytes sink = sink.content

abbrev pub outlet_pages : MemOutlet → Pages
outlet_pages outlet = outlet.content

abbrev pub outlet_failing : MemOutlet → Failing
outlet_failing outlet = calls_failing outlet.calls

abbrev pub sure_outlet_pages : SureOutlet → Pages
sure_outlet_pages outlet = outlet.content

-- Links

-- the messages that are still to come
abbrev pub link_left : MemLink → Messages
link_left link = link.left.items

abbrev pub link_sent : MemLink → Messages
link_sent link = link.sent

abbrev pub link_failing : MemLink → Failing
link_failing link = calls_failing link.calls

abbrev pub link_told : MemLink → LinkTold
link_told link = record {
  left = Some (link_left link);
  sent = Some (link_sent link);
  faults = (link_failing link).faults;
}

abbrev pub sure_link_left : SureLink → Messages
sure_link_left link = link.left.items

abbrev pub sure_link_sent : SureLink → Messages
sure_link_sent link = link.sent

abbrev pub sure_link_told : SureLink → LinkTold
sure_link_told link = record { left = Some (sure_link_left link); sent = Some (sure_link_sent link); faults = 0 }

-- Doors

-- the links that are still to be handed out
abbrev pub door_links : MemDoor → List MemLink
door_links door = door.links.items

-- the links as they were handed out
abbrev pub door_accepted : MemDoor → List MemLink
door_accepted door = map (λ accepted. accepted.value) door.accepted.items

-- the links that were taken back
abbrev pub door_returned : MemDoor → List MemLink
door_returned door = door.returned

abbrev pub door_failing : MemDoor → Failing
door_failing door = calls_failing door.calls

-- an accept fails at a call that is listed, and if no link is left
abbrev pub accept_fails : MemDoor → Bool
accept_fails door = is_listed (door_failing door) || (length (door_links door) == 0)

abbrev pub told_links : List MemLink → Links
told_links links = map link_told links

abbrev pub door_told : MemDoor → DoorTold
door_told door = record {
  accepted = Some (told_links (door_accepted door));
  returned = Some (told_links (door_returned door));
  faults = (door_failing door).faults;
}
