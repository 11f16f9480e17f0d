-- A fault in what is read is one of what is made of it.
use Rattle.std.proofs.Common.{refl, ℕ, Result}
use Rattle.dom_c.specs.{Arguments.IsFaultOf, Arguments.then_make, declared.argument_fault.ArgumentFault.ArgumentFault, declared.argument_fault.ArgumentFault.TheVariants.Memory, declared.argument_fault.ArgumentFault.TheVariants.NotUtf8, declared.argument_fault.ArgumentFault.TheVariants.BadLengths, declared.argument_fault.ArgumentFault.TheVariants.BadChoice}

pub fault-made : {A B : Type 0} (fault : ArgumentFault) (r : Result A ℕ) (make : A → Result B ℕ) → IsFaultOf fault r → IsFaultOf fault (then_make r make)
fault-made Memory r make h = tt
fault-made NotUtf8 r make h = rw h refl
fault-made BadLengths r make h = rw h refl
fault-made BadChoice r make h = rw h refl
