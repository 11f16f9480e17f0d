pub mod LabelTexts
