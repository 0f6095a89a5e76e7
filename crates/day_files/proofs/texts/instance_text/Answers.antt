-- The text of each refusal is that of a row, or of fixed words.
use Rattle.std.proofs.Common.{◌≡◌, Global, Result, String, IfOk, string_bytes, sym, subst}
use Rattle.rail_base.specs.declared.memory.NoMemory.{NoMemory}
use Rattle.day_tables.specs.declared.building.refusal.InstanceRefusal.{InstanceRefusal}
use Rattle.day_files.specs.Texts.{instance_text}
use Rattle.day_files.proofs.texts.instance_text.Goals as goal

says : (refusal other : InstanceRefusal) (result : Result (String Global) NoMemory) → refusal ≡ other
    → IfOk result (λ text. string_bytes text ≡ instance_text other)
    → IfOk result (λ text. string_bytes text ≡ instance_text refusal)
says refusal other result is text =
    subst (λ (r : InstanceRefusal). IfOk result (λ text. string_bytes text ≡ instance_text r)) (sym is) text

pub returns-in-RepeatedName : goal.returns-in-RepeatedName
returns-in-RepeatedName c = says c.args.refusal.now _ c.at_row.result c.in-RepeatedName.is c.at_row.ensures

pub returns-in-UnknownName : goal.returns-in-UnknownName
returns-in-UnknownName c = says c.args.refusal.now _ c.at_column.result c.in-UnknownName.is c.at_column.ensures

pub returns-in-RepeatedStock : goal.returns-in-RepeatedStock
returns-in-RepeatedStock c = says c.args.refusal.now _ c.at_row-in-RepeatedStock.result c.in-RepeatedStock.is c.at_row-in-RepeatedStock.ensures

pub returns-in-ArrivalNotAfterDeparture : goal.returns-in-ArrivalNotAfterDeparture
returns-in-ArrivalNotAfterDeparture c = says c.args.refusal.now _ c.at_row-in-ArrivalNotAfterDeparture.result c.in-ArrivalNotAfterDeparture.is c.at_row-in-ArrivalNotAfterDeparture.ensures

pub returns-in-SameStation : goal.returns-in-SameStation
returns-in-SameStation c = says c.args.refusal.now _ c.at_row-in-SameStation.result c.in-SameStation.is c.at_row-in-SameStation.ensures

pub returns-in-TripUsedTwice : goal.returns-in-TripUsedTwice
returns-in-TripUsedTwice c = says c.args.refusal.now _ c.at_row-in-TripUsedTwice.result c.in-TripUsedTwice.is c.at_row-in-TripUsedTwice.ensures

pub returns-in-WrongStation : goal.returns-in-WrongStation
returns-in-WrongStation c = says c.args.refusal.now _ c.at_row-in-WrongStation.result c.in-WrongStation.is c.at_row-in-WrongStation.ensures

pub returns-in-TooEarly : goal.returns-in-TooEarly
returns-in-TooEarly c = says c.args.refusal.now _ c.at_row-in-TooEarly.result c.in-TooEarly.is c.at_row-in-TooEarly.ensures

pub returns-in-WrongLinkFields : goal.returns-in-WrongLinkFields
returns-in-WrongLinkFields c = says c.args.refusal.now _ c.at_row-in-WrongLinkFields.result c.in-WrongLinkFields.is c.at_row-in-WrongLinkFields.ensures

pub returns-in-NoComposition : goal.returns-in-NoComposition
returns-in-NoComposition c = says c.args.refusal.now _ c.at_row-in-NoComposition.result c.in-NoComposition.is c.at_row-in-NoComposition.ensures

pub returns-in-TooManyUnits : goal.returns-in-TooManyUnits
returns-in-TooManyUnits c = says c.args.refusal.now _ c.fixed_text.result c.in-TooManyUnits.is c.fixed_text.ensures

pub returns-in-TooManyCompositions : goal.returns-in-TooManyCompositions
returns-in-TooManyCompositions c = says c.args.refusal.now _ c.fixed_text-in-TooManyCompositions.result c.in-TooManyCompositions.is c.fixed_text-in-TooManyCompositions.ensures
