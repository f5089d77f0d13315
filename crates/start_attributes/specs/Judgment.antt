-- What is wrong with an attribute, if anything is.
use Rattle.std.specs.Prelude.{◌≡◌, true, false}
use Rattle.spec.specs.Bytes.{Bytes, ◌>>◌, require◌or◌}
use Rattle.spec.specs.Numbers.{Answer, refuse, good}
use Rattle.spec.specs.declared.Refusal.TheVariants.{NotNcName, BadLabel, BadLanguage}
use Rattle.spec.specs.StartTag.{xml_lang, rdf_node_id, ends_in_stop, is_generated, judge}
use Rattle.spec.specs.XmlNames.{is_nc_name}
use Rattle.spec.specs.declared.Verdict.{Verdict}
use Rattle.spec.specs.declared.Verdict.TheVariants as verdict-is
use Rattle.spec.specs.XmlLang.{verdict, is_allowed}
use Rattle.std.specs.Prelude.{Result, Ok, Err}
use Rattle.spec.specs.declared.Refusal.{Refusal}

-- a judgment as an answer, whose value is a
abbrev pub said : {A : Type 0} → Result Unit Refusal → A → Answer A
said (Ok _) a = good a
said (Err r) a = refuse r

-- ---- the tests of `judge_label`

module _ (v : Bytes) where
  pub no_name : is_nc_name v ≡ false → refuse NotNcName ≡ judge rdf_node_id v
  unfolding judge ◌>>◌ require◌or◌
  no_name h = rw h

  module _ (n : is_nc_name v ≡ true) where
    pub ends_in_stop_lem : ends_in_stop v ≡ true → refuse BadLabel ≡ judge rdf_node_id v
    unfolding judge ◌>>◌ require◌or◌
    ends_in_stop_lem h = rw (n, h)

    pub is_generated_lem : ends_in_stop v ≡ false → is_generated v ≡ true → refuse BadLabel ≡ judge rdf_node_id v
    unfolding judge ◌>>◌ require◌or◌
    is_generated_lem h g = rw (n, h, g)

    pub is_label : ends_in_stop v ≡ false → is_generated v ≡ false → good tt ≡ judge rdf_node_id v
    unfolding judge ◌>>◌ require◌or◌
    is_label h g = rw (n, h, g)

-- ---- the arms of `judge_language`

module _ (v : Bytes) {t : Verdict} (e : t ≡ verdict v) where
  pub tag_good : t ≡ verdict-is.Good → good tt ≡ judge xml_lang v
  unfolding judge require◌or◌ is_allowed
  tag_good h = rw (← e, h)

  pub tag_clears : t ≡ verdict-is.Clears → good tt ≡ judge xml_lang v
  unfolding judge require◌or◌ is_allowed
  tag_clears h = rw (← e, h)

  pub tag_bad : t ≡ verdict-is.Bad → refuse BadLanguage ≡ judge xml_lang v
  unfolding judge require◌or◌ is_allowed
  tag_bad h = rw (← e, h)
