-- The values of the plain program as the definitions see them.
use Rattle.std.specs.Prelude.{List, Option, map, option_map}
use Rattle.wire_meaning.specs.Answer.{Item, reply, whole}
use Rattle.run_meaning.specs.declared.plain.OwnedItem.{OwnedItem}
use Rattle.run_meaning.specs.declared.plain.OwnedItem.TheVariants as owned
use Rattle.run_meaning.specs.declared.plain.PlainLine.{PlainLine}
use Rattle.run_meaning.specs.Events.{one_or_none}
use Rattle.run_meaning.specs.Echo.{EchoLine}

-- an item that owns its octets
abbrev pub item_value : OwnedItem → Item
item_value (owned.Reply text) = reply text
item_value (owned.Whole opcode payload) = whole opcode payload

-- an item, or none
abbrev pub item_list : Option OwnedItem → List Item
item_list item = one_or_none (option_map item_value item)

abbrev pub item_values : List OwnedItem → List Item
item_values items = map item_value items

abbrev pub line_value : PlainLine → EchoLine
line_value line = record { phase = line.phase; route = line.route; items = item_values line.items.items }
