-- Whatever input is handed to a machine as it goes on, it finds at each place what the place says, and is never stuck.
use Rattle.std.proofs.Common.{ℕ, zero, suc, List, [], refl, sym, subst}
use Rattle.ss_code_instructions.proofs.Common.{Code, code_of, Core, IsFitForCode, IsWellTyped, Program}
use Rattle.ss_code_instructions.specs.Running.{start, begin_store}
use Rattle.ss_meaning.proofs.Whole.{first_fits as store_fits}
use Rattle.ss_code_instructions.specs.Reached.{IsReachedAfter, ReachedFits, ReachedGoes, core_with_input, at_core}
use Rattle.ss_code_instructions.proofs.Valued.{goes_to}
use Rattle.ss_code_instructions.proofs.ShapingPrograms.{has_shape}
use Rattle.ss_code_instructions.proofs.ShapeKept.{fits_goes, shape_stays}

-- a state fits as well with another input
fits_input : (p : Program) (code : Code) (c : Core) (input : List ℕ) → IsFitForCode p code c → IsFitForCode p code (core_with_input input c)
fits_input p code c input f =
    let s = f.fits.store.sound in
    record {
      placed = f.placed;
      fits = record {
        there = f.fits.there;
        store = record {
          sound = record {
            globals = s.globals;
            world = record {
              setting = s.world.setting;
              layout = s.world.layout;
              heap = s.world.heap;
              pending = s.world.pending;
              histories = s.world.histories;
            };
          };
          locals = f.fits.store.locals;
        };
        cells = f.fits.cells;
        frames = f.fits.frames;
      };
    }

module _ (p : Program) (typed : IsWellTyped p) where
  first_fits : (input : List ℕ) → IsFitForCode p (code_of p) (start (code_of p) input 0).core
  first_fits input = goes_to p typed (code_of p) p.locals 0 [] [] [] (begin_store (code_of p) input) (has_shape p typed).first (store_fits p input) refl tt

  in_fits : (n : ℕ) (c : Core) → IsReachedAfter n (code_of p) c → IsFitForCode p (code_of p) c
  in_fits zero c h = subst (IsFitForCode p (code_of p)) (sym h.1) (first_fits h.0)
  in_fits (suc n) c h =
      let f = h.2 in
      let next = shape_stays p typed (at_core h.0 f.report f.ticks) f.next (in_fits n h.0 h.1) f.steps in
      subst (IsFitForCode p (code_of p)) (sym f.is) (fits_input p (code_of p) f.next.core f.input next)

pub reached_fits : ReachedFits
reached_fits p typed c h = in_fits p typed h.0 c h.1

pub reached_goes : ReachedGoes
reached_goes p typed c h report ticks = fits_goes p typed (at_core c report ticks) (reached_fits p typed c h)
