-- RFC 3987's components, each cut from the next by a delimiter that cannot stand in it.
use mathlib.Core.Path.{◌≡◌, refl, sym, ◌∙◌}
use mathlib.Core.Bool.{true, ◌&&◌, and-false, or-false}
use mathlib.Core.List.{[], ◌∷◌}
use Prim.Native.Nat.{ℕ}
use native.Mathlib.Omega.{arith}
use Rattle.spec.specs.Bytes.{Bytes, up_to, from}
use Rattle.spec.specs.Bytes as B
use Rattle.spec.specs.Grammar.{Grammar, ◌then◌, after}
use Rattle.spec.specs.Abnf.{word}
use Rattle.spec.specs.Rfc3987.{scheme, ihier_part, irelative_part, iauthority, iuserinfo, ipath_abempty, IRI}
use Rattle.spec.specs.Rfc3987 as R
use Rattle.spec.proofs.Booleans.{and_both}
use Rattle.iri.specs.Parts.{of}
use Rattle.iri.specs.Forms.{is_mark, query, fragment, network, server}
use Rattle.iri.proofs.Languages.{of_assoc, of_optional_then, of_nil, of_after, shuns, is, of_shuns, of_cut, of_mark, mark-marked, optional-marked, many-marked}

pub iri_cut : (s : Bytes) → of IRI s ≡ (of scheme (up_to (is 58) s) && of (word ":" then (ihier_part then (query then fragment))) (from (is 58) s))
unfolding IRI word B.ascii shuns is_mark R.all
iri_cut s = of_cut 58 scheme (word ":" then (ihier_part then (query then fragment))) (omega arith) refl (λ t i. mark-marked 58 refl t i) s

module _ (part : Grammar ℕ) (no-query : shuns 63 part ≡ true) (no-fragment : shuns 35 part ≡ true) where
  pub fragment-cut : (s : Bytes) → of (part then (query then fragment)) s ≡ (of (part then query) (up_to (is 35) s) && of fragment (from (is 35) s))
  unfolding word B.ascii shuns is_mark R.all
  fragment-cut s = of_assoc part query fragment s ∙ of_cut 35 (part then query) fragment (omega arith) (and_both (shuns 35 part) (shuns 35 query) no-fragment refl) (λ t i. optional-marked 35 refl _ t i) s

  pub query-cut : (s : Bytes) → of (part then query) s ≡ (of part (up_to (is 63) s) && of query (from (is 63) s))
  unfolding word B.ascii shuns is_mark R.all
  query-cut s = of_cut 63 part query (omega arith) no-query (λ t i. optional-marked 63 refl _ t i) s

pub hier_shuns-query : shuns 63 ihier_part ≡ true
unfolding shuns R.all
hier_shuns-query = refl

pub hier_shuns-fragment : shuns 35 ihier_part ≡ true
unfolding shuns R.all
hier_shuns-fragment = refl

pub relative_shuns-query : shuns 63 irelative_part ≡ true
unfolding shuns R.all
relative_shuns-query = refl

pub relative_shuns-fragment : shuns 35 irelative_part ≡ true
unfolding shuns R.all
relative_shuns-fragment = refl

-- ---- "//" iauthority ipath-abempty

pub network-cut : (s : Bytes) → of network s ≡ (of iauthority (up_to (is 47) s) && of ipath_abempty (from (is 47) s))
unfolding shuns is_mark R.all
network-cut s = of_cut 47 iauthority ipath_abempty (omega arith) refl (λ t i. many-marked 47 refl t i) s

pub hier_network : (s : Bytes) → of ihier_part (47 ∷ 47 ∷ s) ≡ of network s
unfolding R.all
hier_network s = of_after ihier_part 47 (47 ∷ s) (omega arith) ∙ of_after (after 47 ihier_part) 47 s (omega arith)

pub relative_network : (s : Bytes) → of irelative_part (47 ∷ 47 ∷ s) ≡ of network s
unfolding R.all
relative_network s = of_after irelative_part 47 (47 ∷ s) (omega arith) ∙ of_after (after 47 irelative_part) 47 s (omega arith)

-- ---- [ iuserinfo "@" ] ihost [ ":" port ]

user_cut : (s : Bytes) → of ((iuserinfo then word "@") then server) s ≡ (of iuserinfo (up_to (is 64) s) && of (word "@" then server) (from (is 64) s))
unfolding shuns is_mark R.all
user_cut s = sym (of_assoc iuserinfo (word "@") server s) ∙ of_cut 64 iuserinfo (word "@" then server) (omega arith) refl (λ t i. mark-marked 64 refl t i) s

pub authority_user : (s : Bytes) {t : Bytes} → from (is 64) s ≡ 64 ∷ t → of iauthority s ≡ (of iuserinfo (up_to (is 64) s) && of server t)
unfolding shuns is_mark R.all
authority_user s {t} e =
    of_optional_then (iuserinfo then word "@") server s ∙ rw (of_shuns 64 server s (omega arith) refl e, user_cut s, e, of_mark 64 refl server t)

pub authority_server : (s : Bytes) → from (is 64) s ≡ [] → of iauthority s ≡ of server s
unfolding is_mark R.all
authority_server s e =
    of_optional_then (iuserinfo then word "@") server s ∙ rw (user_cut s, e, of_nil (word "@" then server)) (rw (and-false (of iuserinfo (up_to (is 64) s)), or-false (of server s)))
