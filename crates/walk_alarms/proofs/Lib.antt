mod Judging
