use Rattle.dom_model.proofs.Counting.NumbersStay.{number-is_next, numbers-rise}
use Rattle.dom_session.proofs.laws.new_numbers_differ.Goals as goal

pub returns : goal.returns
returns c = record {
  next = λ b w d kind n makes told. number-is_next b w d kind n makes told;
  later = λ b w d between e kind n m makes makes_too told told_too. numbers-rise b w d between e kind n m makes makes_too told told_too;
}
