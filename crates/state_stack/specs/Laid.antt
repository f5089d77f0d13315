-- The parts of a new element, written one behind the other: what each place of its frame then shows.
use Rattle.std.specs.Prelude.{ℕ, ◌+◌, ◌-◌, ◌≡◌, List, ◌++◌}
use Rattle.std.proofs.Math.Path.{sym, ap}
use Rattle.std.proofs.Common.{◌∙◌, add-zero, arith}
use Rattle.std.proofs.Math.ListN.{length, length-append}
use Rattle.std.proofs.Math.Seq.{take-append_seam, drop-append_seam, take-length}
use Rattle.spec.specs.Bytes.{Bytes}
use Rattle.copy.specs.Copy.{part, Wrote, part-part, wrote_part}
use Rattle.state_words.specs.Parts.{BASE, TAG, MAIN, ID, DATATYPE, TAIL, END}
use Rattle.state_words.specs.declared.Frame.{Frame}
use Rattle.state.specs.Meaning.{at, span}

-- s stands in v from a on
pub record Stands (v : List ℕ) (a : ℕ) (s : Bytes) : Type 0 where
  pub there : part v a (length s) ≡ s

pub stands_wrote : {w v : List ℕ} {a to : ℕ} {s : Bytes} → Wrote w v a to s → Stands v a s
stands_wrote h = record { there = wrote_part h }

module _ {v : List ℕ} {a : ℕ} (p q : Bytes) (h : Stands v a (p ++ q)) where
  pub stands_front : Stands v a p
  unfolding part
  stands_front =
      let l = length-append p q in
      let e : part (part v a (length (p ++ q))) 0 (length p) ≡ part v (a + 0) (length p) = part-part v a (length (p ++ q)) 0 (length p) (omega arith) in
      record { there = ap (λ (n : ℕ). part v n (length p)) (sym (add-zero a)) ∙ (sym e ∙ (ap (λ (s : Bytes). part s 0 (length p)) h.there ∙ take-append_seam p q)) }

  pub stands_back : Stands v (a + length p) q
  unfolding part
  stands_back =
      let l = length-append p q in
      let e : part (part v a (length (p ++ q))) (length p) (length q) ≡ part v (a + length p) (length q) = part-part v a (length (p ++ q)) (length p) (length q) (omega arith) in
      record { there = sym e ∙ (ap (λ (s : Bytes). part s (length p) (length q)) h.there ∙ rw (drop-append_seam p q, take-length q)) }

pub stands-span : {v : List ℕ} {a : ℕ} {s : Bytes} (b : ℕ) → Stands v a s → b ≡ a + length s → span v a b ≡ s
unfolding span
stands-span {v} {a} {s} b h e = let n : b - a ≡ length s = omega arith in rw n h.there

-- the places of frame f, from its base on, are those of these parts
pub record Laid (v : List ℕ) (f : Frame) (base tag main id type tail : Bytes) : Type 0 where
  pub own_base : span v (at f BASE) (at f TAG) ≡ base
  pub own_tag : span v (at f TAG) (at f MAIN) ≡ tag
  pub main_part : span v (at f MAIN) (at f ID) ≡ main
  pub rdf_id : span v (at f ID) (at f DATATYPE) ≡ id
  pub datatype : span v (at f DATATYPE) (at f TAIL) ≡ type
  pub tail_part : span v (at f TAIL) (at f END) ≡ tail

pub laid : {w v : List ℕ} {f : Frame} {to : ℕ} (base tag main id type tail : Bytes) → Wrote w v (at f BASE) to (base ++ (tag ++ (main ++ (id ++ (type ++ tail)))))
    → at f TAG ≡ at f BASE + length base → at f MAIN ≡ at f TAG + length tag → at f ID ≡ at f MAIN + length main → at f DATATYPE ≡ at f ID + length id → at f TAIL ≡ at f DATATYPE + length type
    → at f END ≡ at f TAIL + length tail → Laid v f base tag main id type tail
laid {w} {v} {f} {to} base tag main id type tail h a b c d e g =
    let s2 = stands_wrote h in
    let s3 = stands_back base (tag ++ (main ++ (id ++ (type ++ tail)))) s2 in
    let s4 = stands_back tag (main ++ (id ++ (type ++ tail))) s3 in
    let s5 = stands_back main (id ++ (type ++ tail)) s4 in
    let s6 = stands_back id (type ++ tail) s5 in
    let s7 = stands_back type tail s6 in
    record {
      own_base = stands-span (at f TAG) (stands_front base (tag ++ (main ++ (id ++ (type ++ tail)))) s2) a;
      own_tag = moved a (at f MAIN) (stands_front tag (main ++ (id ++ (type ++ tail))) s3) b;
      main_part = moved (b ∙ ap (◌+ length tag) a) (at f ID) (stands_front main (id ++ (type ++ tail)) s4) c;
      rdf_id = moved (c ∙ ap (◌+ length main) (b ∙ ap (◌+ length tag) a)) (at f DATATYPE) (stands_front id (type ++ tail) s5) d;
      datatype = moved (d ∙ ap (◌+ length id) (c ∙ ap (◌+ length main) (b ∙ ap (◌+ length tag) a))) (at f TAIL) (stands_front type tail s6) e;
      tail_part = moved (e ∙ ap (◌+ length type) (d ∙ ap (◌+ length id) (c ∙ ap (◌+ length main) (b ∙ ap (◌+ length tag) a)))) (at f END) s7 g;
    }
  where
    moved : {x y : ℕ} {s : Bytes} → x ≡ y → (z : ℕ) → Stands v y s → z ≡ x + length s → span v x z ≡ s
    moved {x} {y} {s} p z k q = rw p (stands-span z k (q ∙ ap (◌+ length s) p))
