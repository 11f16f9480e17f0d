-- The steps of the commands that make nodes, from any world that is shown.
use Rattle.std.proofs.Common.{◌≡◌, ℕ, ◌+◌, nat_lt, Bool, true, false, List, [], ◌∷◌, Some, None, refl, sym, ap, ◌∙◌}
use Rattle.dom_model.specs.declared.{Kind.TheVariants.Element, Kind.TheVariants.Text, Kind.TheVariants.ProcessingInstruction, Kind.TheVariants.Comment, Kind.TheVariants.Document, Kind.TheVariants.DocumentFragment, DomError.TheVariants.InvalidCharacterError}
use Rattle.dom_model.specs.Definitions.{Label, is_kind, Content, no_content, document_label, is_element_name, is_doctype_name, closes_instruction, doctype_label, Command, NewDocument, CreateElement, CreateText, CreateComment, CreatePI, CreateDoctype, CreateFragment, Bounds, Step, guarded, refused, no_node, wrong_kind, no_room, bad_name, made_node, makes, named, with_text, answer, throws}
use Rattle.dom_model.specs.Worlds.World as model
use Rattle.dom_model.specs.Commands.Reply as model_reply
use Rattle.dom_edit.specs.{declared.world.World.World, Whole.IsWhole, Whole.Shows, Whole.Follows}
use Rattle.dom_commands.specs.{declared.brief.Brief.TheVariants.Number, declared.reply.Reply.TheVariants.Brief}
use Rattle.dom_session.specs.{AnswerBounds.numbered, SessionViews.IsStep, Refusals.making_refusal}
use Rattle.dom_session.proofs.GuardedLemmas.{guarded-none, guarded-some, step-follows}

-- what may stand in the way of every new node in a document
pub guarded-making : (v : World) (b : Bounds) (d : ℕ) (cs : List (Bool × model_reply.Reply)) (w : model.World) (s : Step) → Shows v w → making_refusal v b.numbers d ≡ None → guarded (no_node d w ∷ wrong_kind (is_kind Document) d w ∷ no_room b w.made 1 ∷ cs) w s ≡ guarded cs w s
guarded-making v b d cs w s shown none =
    guarded-none (no_node d w ∷ wrong_kind (is_kind Document) d w ∷ no_room b w.made 1 ∷ []) cs w s (rw (shown.keeps.forest, shown.keeps.made) none)

-- a command that makes a node, where the new number is the next
pub step-makes : (old new : World) (b : Bounds) (c : Command) (document number : ℕ) (label : Label) (body : Content) → ((w : model.World) → Shows old w → answer b w c ≡ makes document label body w) → number ≡ old.tree.made → Follows old new (made_node document label body) → IsWhole new → IsStep old new b c (Brief (Number number))
step-makes old new b c document number label body e is f whole =
    step-follows b c (Brief (Number number)) old new (made_node document label body) refl
    (λ w shown. e w shown ∙ ap (λ n. record { reply = model_reply.Done (model_reply.Number n); world = made_node document label body w }) (shown.keeps.made ∙ sym is))
    f whole

pub refused-making : (v : World) (b : Bounds) (d : ℕ) (cs : List (Bool × model_reply.Reply)) (w : model.World) (s : Step) (r : model_reply.Reply) → Shows v w → making_refusal v b.numbers d ≡ Some r → guarded (no_node d w ∷ wrong_kind (is_kind Document) d w ∷ no_room b w.made 1 ∷ cs) w s ≡ refused r w
refused-making v b d cs w s r shown some =
    guarded-some (no_node d w ∷ wrong_kind (is_kind Document) d w ∷ no_room b w.made 1 ∷ []) cs w s r (rw (shown.keeps.forest, shown.keeps.made) some)

pub answer-create_element : (v : World) (n d : ℕ) (name : List ℕ) (w : model.World) → Shows v w → making_refusal v n d ≡ None → is_element_name name ≡ true → answer (numbered n) w (CreateElement d name) ≡ makes d (named Element name) no_content w
answer-create_element v n d name w shown none valid =
    guarded-making v (numbered n) d (bad_name (is_element_name name) ∷ []) w (makes d (named Element name) no_content w) shown none ∙ rw valid refl

pub answer-create_text : (v : World) (n d : ℕ) (text : List ℕ) (w : model.World) → Shows v w → making_refusal v n d ≡ None → answer (numbered n) w (CreateText d text) ≡ makes d (named Text []) (with_text text) w
answer-create_text v n d text w shown none =
    guarded-making v (numbered n) d [] w (makes d (named Text []) (with_text text) w) shown none

pub answer-create_comment : (v : World) (n d : ℕ) (text : List ℕ) (w : model.World) → Shows v w → making_refusal v n d ≡ None → answer (numbered n) w (CreateComment d text) ≡ makes d (named Comment []) (with_text text) w
answer-create_comment v n d text w shown none =
    guarded-making v (numbered n) d [] w (makes d (named Comment []) (with_text text) w) shown none

pub answer-create_instruction : (v : World) (n d : ℕ) (target text : List ℕ) (w : model.World) → Shows v w → making_refusal v n d ≡ None → is_element_name target ≡ true → closes_instruction text ≡ false → answer (numbered n) w (CreatePI d target text) ≡ makes d (named ProcessingInstruction target) (with_text text) w
answer-create_instruction v n d target text w shown none valid apart =
    guarded-making v (numbered n) d (bad_name (is_element_name target) ∷ throws (closes_instruction text) InvalidCharacterError ∷ []) w (makes d (named ProcessingInstruction target) (with_text text) w) shown none
    ∙ rw (valid, apart) refl

pub answer-create_doctype : (v : World) (n d : ℕ) (name public_id system_id : List ℕ) (w : model.World) → Shows v w → making_refusal v n d ≡ None → is_doctype_name name ≡ true → answer (numbered n) w (CreateDoctype d name public_id system_id) ≡ makes d (doctype_label name public_id system_id) no_content w
answer-create_doctype v n d name public_id system_id w shown none valid =
    guarded-making v (numbered n) d (bad_name (is_doctype_name name) ∷ []) w (makes d (doctype_label name public_id system_id) no_content w) shown none ∙ rw valid refl

pub answer-create_fragment : (v : World) (n d : ℕ) (w : model.World) → Shows v w → making_refusal v n d ≡ None → answer (numbered n) w (CreateFragment d) ≡ makes d (named DocumentFragment []) no_content w
answer-create_fragment v n d w shown none =
    guarded-making v (numbered n) d [] w (makes d (named DocumentFragment []) no_content w) shown none

pub answer-new_document : (v : World) (n : ℕ) (w : model.World) → Shows v w → nat_lt n (v.tree.made + 1) ≡ false → answer (numbered n) w NewDocument ≡ makes v.tree.made document_label no_content w
answer-new_document v n w shown room = rw (shown.keeps.made, room) refl

pub refused-create_element : (v : World) (n d : ℕ) (name : List ℕ) (w : model.World) (r : model_reply.Reply) → Shows v w → making_refusal v n d ≡ Some r → answer (numbered n) w (CreateElement d name) ≡ refused r w
refused-create_element v n d name w r shown some =
    refused-making v (numbered n) d (bad_name (is_element_name name) ∷ []) w (makes d (named Element name) no_content w) r shown some

pub refused-create_text : (v : World) (n d : ℕ) (text : List ℕ) (w : model.World) (r : model_reply.Reply) → Shows v w → making_refusal v n d ≡ Some r → answer (numbered n) w (CreateText d text) ≡ refused r w
refused-create_text v n d text w r shown some =
    refused-making v (numbered n) d ([]) w (makes d (named Text []) (with_text text) w) r shown some

pub refused-create_comment : (v : World) (n d : ℕ) (text : List ℕ) (w : model.World) (r : model_reply.Reply) → Shows v w → making_refusal v n d ≡ Some r → answer (numbered n) w (CreateComment d text) ≡ refused r w
refused-create_comment v n d text w r shown some =
    refused-making v (numbered n) d ([]) w (makes d (named Comment []) (with_text text) w) r shown some

pub refused-create_instruction : (v : World) (n d : ℕ) (target text : List ℕ) (w : model.World) (r : model_reply.Reply) → Shows v w → making_refusal v n d ≡ Some r → answer (numbered n) w (CreatePI d target text) ≡ refused r w
refused-create_instruction v n d target text w r shown some =
    refused-making v (numbered n) d (bad_name (is_element_name target) ∷ throws (closes_instruction text) InvalidCharacterError ∷ []) w (makes d (named ProcessingInstruction target) (with_text text) w) r shown some

pub refused-create_doctype : (v : World) (n d : ℕ) (name public_id system_id : List ℕ) (w : model.World) (r : model_reply.Reply) → Shows v w → making_refusal v n d ≡ Some r → answer (numbered n) w (CreateDoctype d name public_id system_id) ≡ refused r w
refused-create_doctype v n d name public_id system_id w r shown some =
    refused-making v (numbered n) d (bad_name (is_doctype_name name) ∷ []) w (makes d (doctype_label name public_id system_id) no_content w) r shown some

pub refused-create_fragment : (v : World) (n d : ℕ) (w : model.World) (r : model_reply.Reply) → Shows v w → making_refusal v n d ≡ Some r → answer (numbered n) w (CreateFragment d) ≡ refused r w
refused-create_fragment v n d w r shown some =
    refused-making v (numbered n) d ([]) w (makes d (named DocumentFragment []) no_content w) r shown some
