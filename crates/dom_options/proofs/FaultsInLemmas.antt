-- What clap makes of some command lines.
use Rattle.std.proofs.Common.{◌≡◌, List, [], ◌∷◌, true, false, codes, refl}
use Rattle.clap.specs.{Words.Text, Words.takes, declared.error.kind.ErrorKind.TheVariants.DisplayHelp, declared.error.kind.ErrorKind.TheVariants.DisplayVersion, declared.error.kind.ErrorKind.TheVariants.UnknownArgument, declared.error.kind.ErrorKind.TheVariants.ValueValidation}
use Rattle.clap.proofs.OnLiterals.{clap_on_literals}
use Rattle.dom_options.specs.CommandLine.{bounds_asked, faults_in, program_app}

abbrev alone : List Text
alone = codes "domserve" ∷ []

abbrev with_line : List Text
with_line = codes "domserve" ∷ codes "--line" ∷ codes "10" ∷ []

abbrev with_numbers : List Text
with_numbers = codes "domserve" ∷ codes "--numbers=4" ∷ []

abbrev for_help : List Text
for_help = codes "domserve" ∷ codes "--help" ∷ []

abbrev for_version : List Text
for_version = codes "domserve" ∷ codes "--version" ∷ []

abbrev line_of_none : List Text
line_of_none = codes "domserve" ∷ codes "--line" ∷ codes "0" ∷ []

abbrev stray_word : List Text
stray_word = codes "domserve" ∷ codes "x" ∷ []

-- words that are taken, and their limits
pub alone_taken : faults_in alone ≡ []
unfolding faults_in clap_on_literals
alone_taken = refl

pub alone_asks : bounds_asked alone ≡ record { numbers = 4294967295; line = 1048576 }
unfolding bounds_asked clap_on_literals
alone_asks = refl

pub line_taken : faults_in with_line ≡ []
unfolding faults_in clap_on_literals
line_taken = refl

pub line_asks : bounds_asked with_line ≡ record { numbers = 4294967295; line = 10 }
unfolding bounds_asked clap_on_literals
line_asks = refl

pub numbers_taken : faults_in with_numbers ≡ []
unfolding faults_in clap_on_literals
numbers_taken = refl

pub numbers_asks : bounds_asked with_numbers ≡ record { numbers = 4; line = 1048576 }
unfolding bounds_asked clap_on_literals
numbers_asks = refl

-- words that are not
pub help_asked : faults_in for_help ≡ DisplayHelp ∷ []
unfolding faults_in clap_on_literals
help_asked = refl

pub version_asked : faults_in for_version ≡ DisplayVersion ∷ []
unfolding faults_in clap_on_literals
version_asked = refl

pub line_of_none_refused : faults_in line_of_none ≡ ValueValidation ∷ []
unfolding faults_in clap_on_literals
line_of_none_refused = refl

pub stray_word_refused : faults_in stray_word ≡ UnknownArgument ∷ []
unfolding faults_in clap_on_literals
stray_word_refused = refl

-- the same by clap's test of words
pub alone_takes : takes program_app alone ≡ true
unfolding clap_on_literals
alone_takes = refl

pub line_takes : takes program_app with_line ≡ true
unfolding clap_on_literals
line_takes = refl

pub numbers_takes : takes program_app with_numbers ≡ true
unfolding clap_on_literals
numbers_takes = refl

pub help_takes : takes program_app for_help ≡ false
unfolding clap_on_literals
help_takes = refl

pub line_of_none_takes : takes program_app line_of_none ≡ false
unfolding clap_on_literals
line_of_none_takes = refl

pub stray_word_takes : takes program_app stray_word ≡ false
unfolding clap_on_literals
stray_word_takes = refl
