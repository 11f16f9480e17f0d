use Rattle.std.proofs.Common.{ap, refl, sym, subst, ◌≡◌, ◌∙◌, map, true}
use Rattle.clap.specs.Words.{App, HasKind, Kinds, app_of, fault_of, is_simple, is_simple_and_free, matches_of}
use Rattle.clap.proofs.OnLiterals.{clap_on_literals}
use Rattle.dom_options.specs.CommandLine.{bounds_asked, bounds_at, faults_in, program_app}
use Rattle.dom_options.proofs.IsRefusalOfLemmas.{told}
use Rattle.dom_options.proofs.options.asked_from.Goals as goal

program_is_simple : is_simple program_app ≡ true
unfolding clap_on_literals
program_is_simple = refl

program_is_free : is_simple_and_free program_app ≡ true
unfolding clap_on_literals
program_is_free = refl

pub returns-in-Ok-try_get_matches_from-clause-asked :
    goal.returns-in-Ok-try_get_matches_from-clause-asked
unfolding bounds_asked
returns-in-Ok-try_get_matches_from-clause-asked g c =
    let app : app_of c.in-Ok.command ≡ program_app = c.in-Ok.ensures in
    let words = map g.S.AsStr.text c.args.words.now in
    let rows = (c.in-Ok-try_get_matches_from.ensures.matches (ap is_simple app ∙ program_is_simple)).0 in
    c.asked_of.ensures.value ∙ ap bounds_at (rows ∙ ap (λ (a : App). matches_of a words) app)

pub returns-in-Ok-try_get_matches_from-clause-taken :
    goal.returns-in-Ok-try_get_matches_from-clause-taken
unfolding faults_in
returns-in-Ok-try_get_matches_from-clause-taken g c =
    let app : app_of c.in-Ok.command ≡ program_app = c.in-Ok.ensures in
    let words = map g.S.AsStr.text c.args.words.now in
    ap (λ (a : App). fault_of a words) (sym app) ∙ c.in-Ok-try_get_matches_from.ensures.kinds (ap is_simple_and_free app ∙ program_is_free)

pub returns-in-Err-try_get_matches_from-clause-told :
    goal.returns-in-Err-try_get_matches_from-clause-told
unfolding faults_in
returns-in-Err-try_get_matches_from-clause-told g c =
    let app : app_of c.in-Ok.command ≡ program_app = c.in-Ok.ensures in
    let words = map g.S.AsStr.text c.args.words.now in
    let error = c.in-Err-try_get_matches_from.error in
    let failed = c.in-Err-try_get_matches_from.ensures.kinds (ap is_simple_and_free app ∙ program_is_free) in
    told (fault_of program_app words) error c.refusal_of.result
    (subst (λ (ks : Kinds). HasKind ks error) (ap (λ (a : App). fault_of a words) app) failed) c.refusal_of.ensures
