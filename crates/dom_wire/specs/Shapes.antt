-- The shapes and arguments of the code as those of the definitions.
use Rattle.std.specs.Prelude.{map, string_bytes}
use Rattle.dom_model.specs.Commands.Table as model
use Rattle.dom_wire.specs.declared.arguments.Shape.{Shape}
use Rattle.dom_wire.specs.declared.arguments.Shape.TheVariants.{Number, NumberOrNull, String, Text, TextOrNull, Flag, FlagOrNull, Filter, Move, Options}
use Rattle.dom_wire.specs.declared.arguments.Arguments.{Arguments}

abbrev pub shape_view : Shape → model.Shape
shape_view Number = model.a_number
shape_view NumberOrNull = model.a_number_or_null
shape_view String = model.a_string
shape_view Text = model.a_text
shape_view TextOrNull = model.a_text_or_null
shape_view Flag = model.a_flag
shape_view FlagOrNull = model.a_flag_or_null
shape_view Filter = model.a_filter
shape_view Move = model.a_move
shape_view Options = model.the_options

abbrev pub arguments_view : Arguments → model.Arguments
arguments_view a = record {
  numbers = a.numbers;
  strings = map string_bytes a.strings;
  number = a.number;
  text = a.text;
  flag = a.flag;
  flag_or_null = a.flag_or_null;
  rules = a.rules.items;
  move = a.direction;
  options = a.options;
}
