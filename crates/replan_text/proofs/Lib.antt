mod OldRuns
