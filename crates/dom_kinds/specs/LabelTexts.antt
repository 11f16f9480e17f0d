-- What the texts of a label are: a name alone, or those of a doctype.
use Rattle.std.specs.Prelude.{ℕ, List, [], string_bytes}
use Rattle.dom_kinds.specs.declared.label_texts.LabelTexts.{LabelTexts}
use Rattle.dom_kinds.specs.declared.label_texts.LabelTexts.TheVariants.{Short, Long, Doctype}

abbrev pub name_in : LabelTexts → List ℕ
name_in (Short name) = name.bytes
name_in (Long name) = string_bytes name.value
name_in (Doctype texts) = string_bytes texts.value.0

abbrev pub public_in : LabelTexts → List ℕ
public_in (Short name) = []
public_in (Long name) = []
public_in (Doctype texts) = string_bytes texts.value.1

abbrev pub system_in : LabelTexts → List ℕ
system_in (Short name) = []
system_in (Long name) = []
system_in (Doctype texts) = string_bytes texts.value.2
