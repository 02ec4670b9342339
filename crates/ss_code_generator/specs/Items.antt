-- What the items of a PRINT are, with their modes.
use Rattle.std.specs.Prelude.{ℕ}
use Rattle.ss_base.specs.declared.layout.Mode.{Mode}
use Rattle.ss_base.specs.declared.layout.Mode.TheVariants.{Integer, Alpha}
use Rattle.ss_program.specs.Program.{PrintItem, AValue, AMean, AMeanOf}
use Rattle.ss_program.specs.WellTyped.{TypedScope}
use Rattle.ss_code_instructions.specs.declared.item.ItemKind.{ItemKind}
use Rattle.ss_code_instructions.specs.declared.item.ItemKind.TheVariants as shows
use Rattle.ss_code_instructions.specs.Translation.{expression_mode}
use Rattle.ss_code_generator.specs.Emitted.{IsTyped, IsInteger}

abbrev pub value_kind : Mode → ItemKind
value_kind Integer = shows.Number
value_kind Alpha = shows.Text

abbrev pub running_kind : TypedScope → PrintItem → ItemKind
running_kind s (AValue e) = value_kind (expression_mode s e)
running_kind s (AMean k) = shows.Mean k
running_kind s (AMeanOf k e) = shows.MeanOf k

-- how many cells an item takes
abbrev pub item_width : PrintItem → ℕ
item_width (AValue e) = 1
item_width (AMean k) = 0
item_width (AMeanOf k e) = 1

-- what is asked of an item alone
abbrev pub IsTypedItem : PrintItem → TypedScope → Type 0
IsTypedItem (AValue e) s = IsTyped e s
IsTypedItem (AMean k) s = Unit {0}
IsTypedItem (AMeanOf k e) s = IsInteger e s
