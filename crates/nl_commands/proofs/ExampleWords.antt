-- Words by computation, as a check of the definitions against answers made by hand.
use Rattle.std.proofs.Common.{◌≡◌, [], ◌∷◌, refl, None, Some}
use Rattle.std.specs.Prelude.{codes}
use Rattle.clap.specs.Words.{Text}
use Rattle.clap.proofs.OnLiterals.{clap_on_literals}
use Rattle.nl_commands.specs.Meanings.{Meaning, run, help, version, misread, meant}
use Rattle.nl_commands.specs.Options.{divided}

abbrev one : Text → Meaning
one a = meant (a ∷ [])

abbrev two : Text → Text → Meaning
two a b = meant (a ∷ b ∷ [])

abbrev four : Text → Text → Text → Text → Meaning
four a b c d = meant (a ∷ b ∷ c ∷ d ∷ [])

-- ---- numbers

no_words : meant [] ≡ run (divided 64 64 None None None)
unfolding clap_on_literals
no_words = refl

segments_alone : two (codes "--segments") (codes "8") ≡ run (divided 8 64 None None None)
unfolding clap_on_literals
segments_alone = refl

blocks_first : two (codes "--blocks=0004") (codes "--segments=0008") ≡ run (divided 8 4 None None None)
unfolding clap_on_literals
blocks_first = refl

greatest_number : two (codes "--segments") (codes "4294967295") ≡ run (divided 4294967295 64 None None None)
unfolding clap_on_literals
greatest_number = refl

number_too_great : two (codes "--segments") (codes "4294967296") ≡ misread
unfolding clap_on_literals
number_too_great = refl

plus_sign : two (codes "--blocks") (codes "+4") ≡ misread
unfolding clap_on_literals
plus_sign = refl

minus_sign : one (codes "--blocks=-4") ≡ misread
unfolding clap_on_literals
minus_sign = refl

no_digits : one (codes "--segments=") ≡ misread
unfolding clap_on_literals
no_digits = refl

-- ---- options

no_value : one (codes "--segments") ≡ misread
unfolding clap_on_literals
no_value = refl

given_twice : four (codes "--segments") (codes "8") (codes "--segments") (codes "8") ≡ misread
unfolding clap_on_literals
given_twice = refl

beginning_of_an_option : two (codes "--seg") (codes "8") ≡ misread
unfolding clap_on_literals
beginning_of_an_option = refl

word_too_many : one (codes "extra") ≡ misread
unfolding clap_on_literals
word_too_many = refl

letter_of_an_option : two (codes "-s") (codes "8") ≡ misread
unfolding clap_on_literals
letter_of_an_option = refl

-- ---- a configuration

configuration_alone : two (codes "--conf") (codes "a.conf")
    ≡ run (divided 64 64 (Some (codes "a.conf")) None None)
unfolding clap_on_literals
configuration_alone = refl

configuration_before_a_number : four (codes "--conf=/a b") (codes "--blocks") (codes "8")
    (codes "--segments=9")
    ≡ run (divided 9 8 (Some (codes "/a b")) None None)
unfolding clap_on_literals
configuration_before_a_number = refl

configuration_twice : two (codes "--conf=a") (codes "--conf=a") ≡ misread
unfolding clap_on_literals
configuration_twice = refl

configuration_missing : one (codes "--conf") ≡ misread
unfolding clap_on_literals
configuration_missing = refl

option_for_a_configuration : two (codes "--conf") (codes "--blocks=8") ≡ misread
unfolding clap_on_literals
option_for_a_configuration = refl

-- ---- images

image_opened : two (codes "--open") (codes "a.img") ≡ run (divided 64 64 None (Some (codes "a.img")) None)
unfolding clap_on_literals
image_opened = refl

image_saved : one (codes "--save=/a b") ≡ run (divided 64 64 None None (Some (codes "/a b")))
unfolding clap_on_literals
image_saved = refl

image_saved_before_it_is_opened : four (codes "--save") (codes "b") (codes "--conf=c") (codes "--open=a")
    ≡ run (divided 64 64 (Some (codes "c")) (Some (codes "a")) (Some (codes "b")))
unfolding clap_on_literals
image_saved_before_it_is_opened = refl

numbers_with_an_image : two (codes "--open=a") (codes "--segments=8")
    ≡ run (divided 8 64 None (Some (codes "a")) None)
unfolding clap_on_literals
numbers_with_an_image = refl

no_number_with_an_image : two (codes "--open=a") (codes "--blocks=x") ≡ misread
unfolding clap_on_literals
no_number_with_an_image = refl

image_opened_twice : two (codes "--open=a") (codes "--open=b") ≡ misread
unfolding clap_on_literals
image_opened_twice = refl

image_saved_twice : two (codes "--save=a") (codes "--save=a") ≡ misread
unfolding clap_on_literals
image_saved_twice = refl

image_to_open_missing : one (codes "--open") ≡ misread
unfolding clap_on_literals
image_to_open_missing = refl

place_to_save_missing : one (codes "--save") ≡ misread
unfolding clap_on_literals
place_to_save_missing = refl

option_for_an_image : two (codes "--open") (codes "--save=b") ≡ misread
unfolding clap_on_literals
option_for_an_image = refl

-- ---- texts

help_alone : one (codes "--help") ≡ help
unfolding clap_on_literals
help_alone = refl

letter_of_help : one (codes "-h") ≡ help
unfolding clap_on_literals
letter_of_help = refl

letter_of_version : one (codes "-V") ≡ version
unfolding clap_on_literals
letter_of_version = refl

version_before_a_fault : two (codes "--version") (codes "--size") ≡ version
unfolding clap_on_literals
version_before_a_fault = refl

help_behind_a_fault : two (codes "--size") (codes "--help") ≡ misread
unfolding clap_on_literals
help_behind_a_fault = refl
