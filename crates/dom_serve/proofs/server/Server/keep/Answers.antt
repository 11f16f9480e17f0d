use Rattle.std.proofs.Common.{refl, arith}
use Rattle.dom_serve.proofs.FedLemmas.{Stands-part, Breaks-part, holds-longer, holds-too_long, holds-more}
use Rattle.dom_serve.proofs.server.Server.keep.Goals as goal

pub returns-then-self-clause-fed : goal.returns-then-self-clause-fed
returns-then-self-clause-fed g c = λ b bytes h.
    Stands-part b bytes c.args.part.now c.args.self.now _ _ c.requires.part h refl refl refl
    (holds-longer _ _ _ _ c.args.part.now c.if-self.true h.piece)

pub returns-then-len-part-clause-fed : goal.returns-then-len-part-clause-fed
returns-then-len-part-clause-fed g c = λ b bytes h.
    Stands-part b bytes c.args.part.now c.args.self.now _ _ c.requires.part h refl refl refl
    (holds-too_long b.line c.args.self.now.kept.items c.args.self.now.too_long _ c.args.part.now c.if-self.false (omega (arith, h.line)) h.piece)

pub returns-in-Ok-clause-fed : goal.returns-in-Ok-clause-fed
returns-in-Ok-clause-fed g c = λ b bytes h.
    Stands-part b bytes c.args.part.now c.args.self.now _ _ c.requires.part h refl refl refl
    (holds-more b.line c.args.self.now.kept.items c.extend_from_slice.new.self.items c.args.self.now.too_long _ c.args.part.now c.if-self.false (omega (arith, h.line)) c.in-Ok.ensures.items h.piece)

pub returns-in-Err-clause-fed : goal.returns-in-Err-clause-fed
returns-in-Err-clause-fed g c = λ b bytes h. Breaks-part b bytes c.args.part.now _ _ _ c.write_out_of_memory.ensures.written
